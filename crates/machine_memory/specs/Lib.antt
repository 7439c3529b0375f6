pub mod Memories
pub mod Frames
pub mod Returns
pub mod Gathered
pub mod Audits
pub mod Dealt
