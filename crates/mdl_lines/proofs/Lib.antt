pub mod Ascii
pub mod DeviceLemmas
pub mod Items
pub mod ScriptLemmas
pub mod Sessions
