pub mod Vec
