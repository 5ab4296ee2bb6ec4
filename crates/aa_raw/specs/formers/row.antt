pub mod Row
pub mod Claim
