pub mod Values
pub mod Evaluation
pub mod Lists
pub mod Pipes
pub mod Seen
