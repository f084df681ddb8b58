pub mod EscapeLemmas
pub mod LastLemmas
pub mod LineLemmas
pub mod PartLemmas
