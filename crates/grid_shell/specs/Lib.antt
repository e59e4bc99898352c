pub mod Statuses
pub mod Words
pub mod Lines
pub mod Causes
pub mod Endings
pub mod WordTable
pub mod LiveCauses
