pub mod Ends
pub mod Inputs
pub mod Level
pub mod Narrowing
pub mod Pausing
pub mod Registers
pub mod Sitting
pub mod Slices
