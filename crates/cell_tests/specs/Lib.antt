pub mod Booting
