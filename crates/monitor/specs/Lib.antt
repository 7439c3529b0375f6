pub mod Answers
pub mod Faults
pub mod Orders
pub mod Views
