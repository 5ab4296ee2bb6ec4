pub mod Keys
pub mod Sets
pub mod Sifting
pub mod Combining
