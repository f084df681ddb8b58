pub mod HallLemmas
