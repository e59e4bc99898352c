pub mod Flights
pub mod Walks
