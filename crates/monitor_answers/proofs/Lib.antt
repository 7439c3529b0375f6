pub mod Listed
pub mod Ordering
pub mod Places
pub mod Setting
