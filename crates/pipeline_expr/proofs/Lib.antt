pub mod Checking
pub mod Sameness
