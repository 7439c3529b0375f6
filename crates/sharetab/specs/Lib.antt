pub mod Maps
pub mod Hints
pub mod Entries
pub mod Books
pub mod Shares
