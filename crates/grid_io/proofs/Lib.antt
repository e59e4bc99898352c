pub mod Pieces
pub mod ReadAll
