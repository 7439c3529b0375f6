pub mod FileItems
pub mod Files
pub mod Faults
pub mod Runs
pub mod Reading
pub mod Versions
