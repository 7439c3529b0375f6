pub mod Books
pub mod Faith
pub mod Moves
pub mod Returns
pub mod Scans
pub mod Supplies
