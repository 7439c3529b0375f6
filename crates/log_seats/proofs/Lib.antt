pub mod Copies
pub mod Seats
pub mod Places
pub mod Moves
pub mod Plays
