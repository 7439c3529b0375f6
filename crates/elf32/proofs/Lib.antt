pub mod Bytes
pub mod Firsts
pub mod Fitting
pub mod Returning
pub mod Tables
pub mod Truth
pub mod Totals
