pub mod Pipelines
pub mod MarkedSets
pub mod Numbering
pub mod Living
pub mod Sessions
