pub mod into_iter
