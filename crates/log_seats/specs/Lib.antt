pub mod Heads
pub mod Legal
pub mod Views
pub mod Rule
pub mod Plays
