pub mod Bytes
pub mod Numbers
pub mod Views
pub mod Words
