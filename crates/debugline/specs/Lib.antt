pub mod Commands
pub mod Lines
pub mod Replies
pub mod Rows
pub mod Steps
pub mod Views
