pub mod ServerLemmas
