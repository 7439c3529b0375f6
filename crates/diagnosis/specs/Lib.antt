pub mod Printable
pub mod Pages
pub mod Excerpts
pub mod Headers
pub mod Memories
