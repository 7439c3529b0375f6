pub mod Encoded
pub mod Pieces
pub mod ReadBack
pub mod RowLemmas
pub mod Streams
pub mod Writes
