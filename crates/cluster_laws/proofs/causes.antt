-- Why a call ends as it does: each outcome has a cause among the events.
pub mod CauseCalls
pub mod CauseUnits
pub mod CauseIds
pub mod CauseWords
pub mod CauseDates
pub mod CauseRounds
pub mod CauseMoves
pub mod CauseFollows
pub mod CauseQuiet
pub mod CauseOutcomes
pub mod CauseRuns
