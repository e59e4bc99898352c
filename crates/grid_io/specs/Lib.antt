pub mod Adapter
pub mod Count
pub mod Failures
pub mod Feed
pub mod Store
pub mod Supply
pub mod Written
