pub mod Booting
pub mod Giving
pub mod Keeping
pub mod Lending
pub mod Moving
pub mod SlotOrder
