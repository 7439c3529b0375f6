pub mod OnItsWay
pub mod Outlines
pub mod Telling
pub mod Settled
pub mod Becoming
pub mod FreeFrames
pub mod All
