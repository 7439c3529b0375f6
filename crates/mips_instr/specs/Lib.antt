pub mod Coprocessor
pub mod Mnemonics
pub mod Operands
pub mod Targets
pub mod Text
