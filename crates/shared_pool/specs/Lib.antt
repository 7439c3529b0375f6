pub mod Resting
pub mod Balance
pub mod Pools
