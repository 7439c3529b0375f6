pub mod Places
pub mod Gathering
pub mod Leaving
pub mod Housing
pub mod ByPlace
pub mod Stores
