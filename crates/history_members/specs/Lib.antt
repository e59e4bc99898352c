pub mod Cells
pub mod Dates
pub mod Told
pub mod Laws
