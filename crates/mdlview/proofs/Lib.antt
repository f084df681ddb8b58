mod AskedWords
mod FoundOptions
mod FoundRows
mod Options
mod OptionsGiven
mod OptionsTaken
pub mod RunEnds
mod Subcommands
