pub mod Acts
pub mod Lines
pub mod Pages
pub mod Playing
pub mod Transcripts
