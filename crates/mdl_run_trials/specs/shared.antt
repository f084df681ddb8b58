-- The definitions for the tests of the shared table.
pub mod contexts
pub mod steps
