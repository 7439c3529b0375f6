pub mod Stores
pub mod Contents
pub mod Locked
pub mod Supplies
pub mod Evictions
pub mod Returns
pub mod Scans
