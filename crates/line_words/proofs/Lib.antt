pub mod Digits
pub mod Fronts
pub mod Pairs
pub mod Parts
pub mod Written
