pub mod Boards
pub mod Filling
pub mod Fresh
pub mod Places
pub mod Refusing
pub mod Same
