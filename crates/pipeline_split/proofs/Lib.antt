pub mod SplitLaws
pub mod SoundLaws
