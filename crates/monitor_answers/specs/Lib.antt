pub mod Hands
pub mod Keeping
pub mod Lines
pub mod Orders
pub mod Texts
