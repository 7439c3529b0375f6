pub mod Boots
pub mod Places
pub mod Stores
