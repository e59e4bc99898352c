pub mod OwnerLists
pub mod Mending
pub mod SameTopologies
pub mod NeighbourLaws
pub mod Tables
pub mod TopologyParts
pub mod NextTopologies
