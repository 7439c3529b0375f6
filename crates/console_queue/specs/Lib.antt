pub mod Queues
pub mod Rule
