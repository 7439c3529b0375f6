pub mod Places
pub mod Handles
pub mod Audits
pub mod Ends
pub mod Asked
