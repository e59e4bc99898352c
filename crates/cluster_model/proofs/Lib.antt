pub mod ChosenSteps
pub mod NoNewCalls
pub mod Steps
pub mod Frames
pub mod MapLaws
pub mod EvidenceLaws
pub mod CauseLaws
