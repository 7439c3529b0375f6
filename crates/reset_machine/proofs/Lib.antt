mod Covering
mod Homes
mod Marking
mod Past
mod Reaching
mod Stepping
mod Watching
