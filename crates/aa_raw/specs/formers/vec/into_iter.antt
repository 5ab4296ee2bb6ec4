pub mod IntoIter
