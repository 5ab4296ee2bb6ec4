pub mod Linked
pub mod Trees
pub mod Searches
