pub mod Balloon
