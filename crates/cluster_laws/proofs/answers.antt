-- What a call answers: its evidence, its batches and its value, event by event.
pub mod AnswerLinks
pub mod AnswerBatches
pub mod AnswerUnits
pub mod EvidenceCounts
pub mod AnswerTakes
pub mod AnswerWalks
pub mod AnswerTaking
pub mod AnswerKeys
pub mod AnswerEvidence
pub mod AnswerFacts
pub mod AnswerStays
pub mod AnswerKept
pub mod AnswerOutcomes
pub mod AnswerRuns
