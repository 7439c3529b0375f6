pub mod Holds
pub mod Executables
pub mod Errors
pub mod Guests
