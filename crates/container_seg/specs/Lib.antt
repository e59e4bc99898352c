pub mod Places
pub mod Lifespans
pub mod Scans
pub mod Contents
pub mod Stored
