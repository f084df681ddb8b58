pub mod Common
pub mod Settlings
pub mod Standings
pub mod Victims
