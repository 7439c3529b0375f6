pub mod Dumps
pub mod Steps
