-- The definitions for the tests of contexts.
pub mod Halls
