pub mod Calling
pub mod Parts
pub mod Listed
pub mod Takings
pub mod Tallied
pub mod Tallies
pub mod Rows
pub mod Insides
