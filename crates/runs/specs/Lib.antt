pub mod Coverage
pub mod Endings
pub mod Entries
pub mod Loops
pub mod Runs
