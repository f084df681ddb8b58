pub mod Devices
pub mod Faults
pub mod Lines
pub mod ScriptLines
pub mod Sessions
pub mod Words
