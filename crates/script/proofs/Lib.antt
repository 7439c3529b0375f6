pub mod Digits
pub mod Drafts
pub mod Kept
pub mod Named
pub mod Numbered
pub mod Passes
