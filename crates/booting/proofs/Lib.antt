pub mod Guests
pub mod PageCounts
pub mod Places
pub mod Refusing
pub mod Stores
