pub mod Crossing
pub mod Dealing
pub mod Seats
