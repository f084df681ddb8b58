pub mod PauseLemmas
pub mod WorkLemmas
pub mod WorkPins
