pub mod Fronts
pub mod Taken
pub mod Resuming
pub mod Kept
pub mod Endings
pub mod Finishing
pub mod RightRuns
