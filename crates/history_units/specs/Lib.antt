pub mod Dates
pub mod Asks
pub mod Rows
pub mod Told
pub mod Laws
