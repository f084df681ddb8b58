pub mod Prelude
pub mod Victims
