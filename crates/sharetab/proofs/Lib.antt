pub mod Keys
pub mod Hinting
pub mod Tables
pub mod Indexing
pub mod Books
pub mod Offering
