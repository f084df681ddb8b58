-- The definitions for the tests of the base crates.
pub mod deadlocks
