-- The definitions for the tests of deadlocks.
pub mod Ways
