pub mod Lent
pub mod Loading
pub mod Seats
pub mod Tenants
pub mod Turns
