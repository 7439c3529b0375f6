pub mod Crewing
pub mod Places
pub mod Seats
pub mod Sharing
pub mod TwoGuests
