pub mod Records
pub mod Lends
pub mod Held
pub mod FixedInner
pub mod Editor
