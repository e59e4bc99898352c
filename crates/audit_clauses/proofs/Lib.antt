pub mod Guarantees
pub mod FirstFaults
