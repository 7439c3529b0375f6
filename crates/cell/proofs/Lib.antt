pub mod Lent
pub mod Level
pub mod Narrowed
pub mod Plain
pub mod Sitting
pub mod Slicing
pub mod Supplied
