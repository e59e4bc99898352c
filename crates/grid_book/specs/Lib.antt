pub mod Booked
pub mod Insides
pub mod Jobs
