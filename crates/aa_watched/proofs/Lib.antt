pub mod Alone
pub mod Noting
pub mod Walk
pub mod Watching
