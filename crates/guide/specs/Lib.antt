pub mod Stack
pub mod StackInner
