pub mod Admitted
pub mod Crossing
pub mod Ending
pub mod Fronts
pub mod Guests
pub mod Reached
pub mod Rooms
pub mod Seeing
