-- The units of calls: what each has read, which places they stand at, the stages of calls that the events tell.
pub mod UnitFacts
pub mod Reading
pub mod ReadSteps
pub mod ReadKinds
pub mod UnitPlaces
pub mod PlaceKinds
pub mod Batches
pub mod CompletionRuns
pub mod StageFacts
pub mod StageSteps
pub mod CallLinks
pub mod CallRequests
pub mod CallSteps
pub mod StageNotes
pub mod StageRuns
pub mod UnitEffects
pub mod UnitCounts
