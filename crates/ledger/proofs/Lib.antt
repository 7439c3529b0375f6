pub mod Steps
pub mod Coins
