pub mod Codes
pub mod Playing
