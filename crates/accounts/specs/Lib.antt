pub mod Exact
pub mod OwnerShares
pub mod Settling
pub mod Laws
