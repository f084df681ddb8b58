pub mod BlockLemmas
pub mod WordLemmas
