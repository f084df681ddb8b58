-- The names that most proofs of this crate cite: definitions, and lemmas of the library and of the crates below.
pub use Rattle.mdl_calls.specs.AllCalls.{IsCause, reads_with_cache, takes_memory}
pub use Rattle.mdl_calls.specs.Caches.{AreMet, CacheAfter, with_cache}
pub use Rattle.mdl_calls.specs.Faithful.{Each, EachCall, IsFaithful, IsFrugal, StepsOrWants}
pub use Rattle.mdl_calls.specs.FirstWords.{Answer, Ask, Call, Change, Change_definition, Changed, Give, Grow, IsChangeOf, KeyName, Knowledge, OfHeld, OutOfMemory, Program, Read_kept, Refused, Runs, Search, SessionLocks, SpaceError, VersionedDefinition, Victim_is, X, cause_of, change_takes_memory, is_of_tables, is_table_of, outcome_of, same_mode, ℕ, ◌>>=◌}
pub use Rattle.mdl_calls.specs.Prelude.{CacheView, ChangeError, Kept, List, Namespace, Table, [], arith, inl, inr, standing_fault, subst, sym, table_key}
