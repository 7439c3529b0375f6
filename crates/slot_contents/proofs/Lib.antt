pub mod Listing
pub mod Writings
pub mod Becoming
