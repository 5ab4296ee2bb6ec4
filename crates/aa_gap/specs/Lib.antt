pub mod Buffer
pub mod GapBufferInner
pub mod Page
pub mod Editing
pub mod IntoParts
pub mod Extending
pub mod Texts
pub mod BufferLends
