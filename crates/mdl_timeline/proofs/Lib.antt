pub mod LineLemmas
pub mod TurnLemmas
pub mod LawLemmas
pub mod WayLemmas
pub mod ShownLemmas
