-- No call is stuck: from each state that a run reaches there is a way on.
pub mod StuckUnits
pub mod StuckTopologies
pub mod StuckAdvance
pub mod StuckKept
pub mod StuckRuns
