pub mod IndexLaws
pub mod LostLaws
pub mod RegisteredLaws
