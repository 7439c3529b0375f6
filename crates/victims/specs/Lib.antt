pub mod Victims
pub mod Wanted
