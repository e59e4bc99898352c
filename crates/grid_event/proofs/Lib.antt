pub mod TotalWeights
pub mod PlacedNotes
