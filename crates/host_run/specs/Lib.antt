pub mod Hands
pub mod Runs
pub mod Seats
