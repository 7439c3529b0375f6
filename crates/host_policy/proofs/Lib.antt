pub mod Places
pub mod Levels
pub mod Found
pub mod Planned
pub mod Turned
