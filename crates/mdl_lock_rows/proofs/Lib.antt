pub mod GrowLemmas
pub mod LawLemmas
pub mod LineLemmas
pub mod ListLemmas
pub mod NumberLemmas
pub mod NumberingLemmas
pub mod ReadingLemmas
pub mod TableLemmas
