pub mod PassedLaws
pub mod PlaceLemmas
