pub mod Beginnings
pub mod Places
pub mod Columns
