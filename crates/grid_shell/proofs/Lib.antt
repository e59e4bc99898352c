pub mod Scripts
pub mod WordOptions
pub mod WordTable
