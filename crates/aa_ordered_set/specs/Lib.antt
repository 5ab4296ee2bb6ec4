pub mod Sets
pub mod Operators
