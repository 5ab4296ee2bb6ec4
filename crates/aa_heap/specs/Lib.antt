pub mod Heaps
pub mod Drain
pub mod Peek
