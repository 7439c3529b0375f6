pub mod Pages
pub mod Searches
pub mod Shown
pub mod Used
