pub mod Locks
pub mod Rule
