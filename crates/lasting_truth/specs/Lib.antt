pub mod Truths
pub mod Rule
