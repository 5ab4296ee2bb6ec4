pub mod Faults
pub mod Lines
pub mod Names
pub mod Print
pub mod Runs
