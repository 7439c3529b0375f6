pub mod Moving
pub mod Settling
pub mod Swapping
