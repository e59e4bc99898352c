pub mod Words
pub mod Topologies
pub mod Events
pub mod Faults
pub mod Kinds
pub mod Fits
pub mod Reading
pub mod Answers
