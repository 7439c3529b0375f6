pub mod Slots
pub mod Frames
pub mod Holding
