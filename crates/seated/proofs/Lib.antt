pub mod Seeing
pub mod Slicing
