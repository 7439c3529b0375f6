pub mod Mnemonics
pub mod Named
pub mod Registers
