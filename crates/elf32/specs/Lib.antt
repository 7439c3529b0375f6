pub mod Images
pub mod Headers
pub mod Faults
pub mod Files
pub mod Worked
