pub mod Holdings
pub mod Marks
pub mod Outline
pub mod Pages
