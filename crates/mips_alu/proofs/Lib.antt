pub mod Floors
pub mod LeadingZeros
pub mod Parts
pub mod Products
pub mod Quotients
