pub mod Items
pub mod Entries
