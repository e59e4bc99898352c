pub mod TextLemmas
pub mod OrderLemmas
pub mod ListLemmas
pub mod SeenLemmas
pub mod WordLemmas
pub mod Growth
