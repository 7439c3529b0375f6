pub mod Digits
pub mod Fronts
pub mod Signs
mod Parts
mod Quotes
