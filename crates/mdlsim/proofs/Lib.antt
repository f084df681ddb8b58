pub mod CommandWords
pub mod FoundRuns
pub mod Options
pub mod OptionsFound
pub mod OptionsGiven
pub mod WordEnds
