pub mod Runs
pub mod Insides
pub mod Reading
pub mod Taking
pub mod Lifespans
pub mod Parts
