pub mod Heaps
pub mod Pages
pub mod Inverted
pub mod Media
pub mod Untouched
