pub mod FastRuns
pub mod MetAfter
pub mod SettledSearches
