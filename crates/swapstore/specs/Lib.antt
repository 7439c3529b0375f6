pub mod Failures
pub mod Faults
pub mod Files
pub mod Holding
pub mod Memories
pub mod Places
pub mod Slots
