pub mod Seats
pub mod Turning
pub mod Talking
pub mod Ranging
pub mod Sending
