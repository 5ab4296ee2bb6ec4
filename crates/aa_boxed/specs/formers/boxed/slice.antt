pub mod BoxedSlice
