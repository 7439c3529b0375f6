pub mod Buses
pub mod Lacking
pub mod Writes
