pub mod Cycles
pub mod GraphLaws
pub mod Graphs
pub mod Members
pub mod Searches
pub mod Victims
pub mod WaitsFor
