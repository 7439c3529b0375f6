pub mod Ratio
pub mod Sample
pub mod Targets
pub mod Victim
pub mod Worked
