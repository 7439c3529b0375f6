pub mod Shares
pub mod Hands
pub mod Coins
