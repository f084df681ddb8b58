pub mod CommandLine
pub mod Queries
pub mod Runs
