pub mod Faults
pub mod Hosted
pub mod LogFiles
pub mod Raw
pub mod Replays
pub mod Runs
pub mod Sims
pub mod Sources
