pub mod Insides
pub mod Sending
pub mod Receivers
pub mod Hints
