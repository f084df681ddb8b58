pub mod Levels
pub mod LongOptions
pub mod OptionWords
pub mod OptionsTaken
pub mod ShortOptions
pub mod Subcommands
