pub mod Held
pub mod Contents
pub mod Shares
pub mod Laws
