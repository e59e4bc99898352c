pub mod Shaped
pub mod Keeping
pub mod Moves
pub mod Owners
pub mod FirstMembers
pub mod Losing
