pub mod Orders
pub mod Pushes
