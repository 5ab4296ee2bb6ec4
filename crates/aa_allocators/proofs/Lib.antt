mod Choosing
mod Layering
pub mod Placing
pub mod Pooling
mod Racking
mod Rounding
pub mod Shelving
mod Suffixing
mod Zeroed
