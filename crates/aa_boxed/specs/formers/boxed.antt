pub mod Box
pub mod slice
