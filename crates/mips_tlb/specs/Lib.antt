pub mod Entries
pub mod Instructions
pub mod Segments
pub mod Translation
