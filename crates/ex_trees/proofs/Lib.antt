pub mod Totals
pub mod Lasts
pub mod Nodes
pub mod Found
