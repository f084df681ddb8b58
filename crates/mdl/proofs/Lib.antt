-- The lemmas of each layer, by the name of its crate, and those of this one.
pub use Rattle.mdl_book.proofs as mdl_book
pub use Rattle.mdl_calls.proofs as mdl_calls
pub use Rattle.mdl_context.proofs as mdl_context
pub use Rattle.mdl_core.proofs as mdl_core
pub use Rattle.mdl_defs.proofs as mdl_defs
pub use Rattle.mdl_graph.proofs as mdl_graph
pub use Rattle.mdl_key.proofs as mdl_key
pub use Rattle.mdl_lines.proofs as mdl_lines
pub use Rattle.mdl_rows.proofs as mdl_rows
pub use Rattle.mdl_script.proofs as mdl_script
pub use Rattle.mdl_session_laws.proofs as mdl_session_laws
pub use Rattle.mdl_shared.proofs as mdl_shared
pub use Rattle.mdl_space.proofs as mdl_space
pub use Rattle.mdl_steps.proofs as mdl_steps
pub use Rattle.mdl_stmt.proofs as mdl_stmt
pub use Rattle.mdl_syntax.proofs as mdl_syntax
pub use Rattle.mdl_system.proofs as mdl_system
pub use Rattle.mdl_visits.proofs as mdl_visits
pub use Rattle.mdl_word.proofs as mdl_word
pub use Rattle.mdl_work.proofs as mdl_work
pub mod SessionLemmas
