pub mod Covers
pub mod Marks
pub mod Past
pub mod Watched
