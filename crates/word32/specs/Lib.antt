pub mod Pages
pub mod Sign
pub mod Words
pub mod Zeros
