pub mod Coordination
pub mod Following
pub mod Changes
pub mod Slots
pub mod Holding
