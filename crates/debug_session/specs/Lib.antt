pub mod Goes
pub mod Ranges
pub mod Replies
pub mod Talks
