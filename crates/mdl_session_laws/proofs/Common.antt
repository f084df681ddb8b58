-- The names that most proofs of this crate cite: definitions, and lemmas of the library and of the crates below.
pub use Rattle.std.proofs.lemmas.Bool.{and_from, and_parts, false≢true, or_left, or_right}
pub use Rattle.std.proofs.lemmas.Bool.Decides.{eqb_tells, nat_tests}
pub use Rattle.std.proofs.lemmas.List.Folds.{list_all-append, list_any-append}
pub use Rattle.std.specs.List.{list_all}
pub use Rattle.mdl_calls.specs.SpaceLaws.{SpaceLaws}
pub use Rattle.mdl_calls.specs.declared.space_error.SpaceError.{SpaceError}
pub use Rattle.mdl_defs.specs.declared.reading.Reading.{Reading}
pub use Rattle.mdl_session_laws.specs.Prelude.{Answer, Call, Draws, End_wait, Held, IsCause, IsLast, KeepsSettled, KeyName, KnownKey, Knows, Numbers, Poll_wait, Read_definition, Read_kept, ReadsNothing, Refused, Resolve, SessionData, SessionLocks, Settled, SpeaksFor, Try_now, VersionedDefinition, are_apart, are_below, are_rising, are_two, caller, is_answer_of, is_known, is_newest, key_eq, key_known, last_read, noted_at, own_after, place_known, told, was_read}
pub use Rattle.mdl_session_laws.specs.SessionJoins.{Joins, LearnsKeys, LetsRead, TellsTruly, effect_of, ends_wait, wait_met}
