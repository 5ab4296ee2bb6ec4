pub mod row
pub mod raw_vec
pub mod raw_box
pub mod vec
