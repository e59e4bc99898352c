pub mod Hash
pub mod Members
pub mod Segments
