-- The definitions of the tests of steps.
pub mod Fast
