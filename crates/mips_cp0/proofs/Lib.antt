pub mod Entering
pub mod Replaced
pub mod Ticks
