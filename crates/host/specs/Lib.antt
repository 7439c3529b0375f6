pub mod Debugging
pub mod Evictions
pub mod Leftover
pub mod Places
pub mod Slices
pub mod Stops
