pub mod Arithmetic
pub mod Comparing
pub mod Counting
pub mod Dividing
pub mod Merging
pub mod Multiplying
pub mod Shifting
pub mod Signed
