pub mod Draining
pub mod Heaps
