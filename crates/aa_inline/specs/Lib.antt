pub mod Inlined
pub mod Retaining
pub mod InlinedInner
pub mod FewInner
pub mod FewLends
pub mod Lends
pub mod Extending
pub mod Drain
