pub mod Trees
pub mod Gathering
pub mod PlaceLaws
pub mod StoredLaws
pub mod Lasting
