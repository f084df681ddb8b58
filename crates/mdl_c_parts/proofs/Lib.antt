pub mod NameLemmas
pub mod Walking
pub mod WrittenLemmas
