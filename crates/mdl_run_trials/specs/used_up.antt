-- The definitions for the tests of exhausted versions, places and tickets.
pub mod Rooms
