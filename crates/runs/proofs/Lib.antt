pub mod Covered
pub mod Ends
mod Entered
mod Fetches
mod InputFed
mod Rounds
