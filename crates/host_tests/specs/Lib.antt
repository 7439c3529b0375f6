pub mod Crews
pub mod Each
