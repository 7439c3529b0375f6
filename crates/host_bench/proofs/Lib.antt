pub mod Crossing
pub mod Looks
pub mod Places
pub mod Seats
