pub mod Mentions
pub mod Shapes
pub mod Clauses
pub mod Faults
pub mod Laws
