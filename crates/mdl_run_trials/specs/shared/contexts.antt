-- The definitions of the tests of statements over sessions.
pub mod Seats
