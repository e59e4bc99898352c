pub mod Reduced
pub mod Shares
