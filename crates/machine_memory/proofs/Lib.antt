mod Passing
pub mod Stakes
mod Auditing
mod Locks
mod Supplying
mod Frames
mod Dealing
