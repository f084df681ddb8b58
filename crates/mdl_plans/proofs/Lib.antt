pub mod AgainLemmas
pub mod AllRows
pub mod MoreRows
pub mod PlanRows
pub mod PlayLemmas
pub mod RowLemmas
pub mod SeenLemmas
pub mod StatementRows
