pub mod Samples
pub mod Numbers
pub mod Policies
pub mod Evictions
pub mod Turns
