pub mod AnswerLemmas
pub mod PageLemmas
pub mod RowLemmas
