pub mod FitLaws
pub mod Halves
pub mod PieceLaws
pub mod Pieces
pub mod Typed
