pub mod Decimals
pub mod MarkedSets
pub mod SegmentLaws
