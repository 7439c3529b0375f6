pub mod Logs
pub mod Runs
pub mod Stored
pub mod Stops
