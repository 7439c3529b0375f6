pub mod Faults
pub mod Firsts
pub mod Inputs
pub mod Jobs
pub mod Lines
pub mod Logs
pub mod Settings
pub mod Writing
