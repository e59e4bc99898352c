pub mod Stages
pub mod Units
pub mod Work
