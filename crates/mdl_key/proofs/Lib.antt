pub mod MatrixLemmas
pub mod ModeLemmas
pub mod NameLemmas
