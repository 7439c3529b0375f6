pub mod Guests
pub mod Loading
pub mod Views
