pub mod Extras
pub mod Memory
pub mod Registers
