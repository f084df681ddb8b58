pub mod Answers
pub mod Clashes
pub mod Codes
pub mod Handles
pub mod Messages
pub mod Names
pub mod Rows
