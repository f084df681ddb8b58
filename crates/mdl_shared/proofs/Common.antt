-- The names that most proofs of this crate cite: definitions, and lemmas of the library and of the crates below.
pub use Rattle.std.proofs.lemmas.Bool.{and_from, and_left, and_parts, and_right, eqb-false, false≢true, lt-leb, not-true, not_from_false, not_from_true, or_left, or_right}
pub use Rattle.std.proofs.lemmas.Bool.Decides.{nat_tests}
pub use Rattle.std.proofs.lemmas.Cmp.{is_lt_index, ranked}
pub use Rattle.std.proofs.lemmas.List.{get_or-map, get_or_append_left, get_or_past, get_or_push, length-map, length_push, map-set, map_push, take_all}
pub use Rattle.std.proofs.lemmas.List.Elements.{All-cons, All-filter, All-head, All-map, All-nil, All-tail, All-weaker, filter-append}
pub use Rattle.std.proofs.lemmas.List.Folds.{list_all-append, list_all-map, list_any-append}
pub use Rattle.std.proofs.lemmas.List.Sums.{fails_before_first, length-filter, sum_by-append, sum_by-remove, sum_by-set}
pub use Rattle.std.specs.Ordering.{is_eq, is_lt, nat_cmp, ordering_index}
pub use Rattle.std.specs.Result.{result_ok}
pub use Rattle.std.specs.declared.cmp.Ordering.TheVariants.{Less}
pub use Rattle.mdl_defs.specs.VersionedDefinitions.{MayStand, fits, standing_after, standing_fault}
pub use Rattle.mdl_key.specs.Keys.{key_cmp}
pub use Rattle.mdl_key.specs.declared.namespace.Namespace.{Namespace}
pub use Rattle.mdl_session_laws.proofs.FirstLemmas.{KeepsAll, all-among, is-known, key-of_place, last-among, newest-above, place-of_key, reads-nothing, refused-joins, stays-known}
pub use Rattle.mdl_session_laws.proofs.KeptSound.{keeps-sound, learns-sound}
pub use Rattle.mdl_steps.proofs.Lemmas.{AreOthers, Differ, IsOther, Rising, by_bool, counted_mode, each-filtered, each-interleaved, each-uninterleaved, filter-interleaved, find-inserted_other, gone_here, inserted-first, interleaved-cons, interleaved-moved, interleaved-push_fast, interleaved-push_slow, length-interleaved, map-interleaved, none_after, numbered-interleaved, other, rising-filtered, rising-uninterleaved}
pub use Rattle.mdl_steps.specs.declared.view.LatchRecord.{LatchRecord}
pub use Rattle.mdl_visits.proofs.Lemmas.{asked_after, does_then, each_append, each_map, goes_by, goes_on, goes_staying, has_number, key-ties, no_record, none_then, not_waited, rescheduled_after, step_after, step_before, took_earlier}
pub use lib.ListN.{get_elem?}
pub use Rattle.mdl_shared.specs.AllSteps.{Shows, steps_of}
pub use Rattle.mdl_shared.specs.FirstWords.{Alter, Answer, AreAllTables, AreLearnt, AreMet, AreOwed, Ask, Begin_wait, CacheView, Call, Change_definition, Clone_ticket, Deed, Definition, Downgrade, End_wait, Gain, HasRoom, IX, IsMember, IsOwed, Joins, KeepsRoom, Kept, KeyName, Key_of, Keys, Kill, Kind, KnownKey, LearnsKeys, LetsRead, Lists, Lose, MakesNoStep, Member, Merge, Mode, OwesNoMore, Poll_wait, Read_definition, Read_kept, Refused, Release, ReleasesFast, Resolve, Room, Search, SessionTicket, SessionView, Settle_timeout, SpaceError, StepSpec, TableId, Tables_of, TakesSteps, TellsTruly, TicketList, Try_now, Unpin, Upgrade_now, VersionedDefinition, Wait_of, all_tickets, are_below_next, are_counted, are_within, as_held, but_owing, data_of, ends_wait, gained_by, in_mode_at, increment_at, is_ask_last, is_ask_told, is_fit, is_known, is_of, is_waiting, kept_first, kept_of, kind_known, list_any, lists_seen, looked_at, most_numbers, note_of, numbered, owed_in, own_at, place_known, session_at, settled_of, settled_state, settled_told, some, some-injective, some-ne-none, tickets_seen, unknown, wait_met, without_at, word_count}
pub use Rattle.mdl_shared.specs.KeptReads.{MayKeep, ReadsKept, UsesKept, kept_standing}
pub use Rattle.mdl_shared.specs.OwnTickets.{AreKept, HaveRisingNumbers, IsLastGained, StandsAt, counted_at, fast_counted_at, fast_found, fast_of, flags_of, is_at_place, is_fast_there, noted_in, slow_of, slowed, slowed_as, with_note}
pub use Rattle.mdl_shared.specs.Passes.{ArePasses, IsPass, view_of}
pub use Rattle.mdl_shared.specs.Prelude.{AreWithin, AtItsTable, AwaitsAt, Distinct, Does, Draws, Each, FitsKey, Follows, Gained, HasTicket, Held, HoldsAt, HoldsNoLatch, IfSome, IsBinarySearchResult, IsCause, IsCounted, IsExplained, IsLast, IsLookupAnswer, IsNonDecreasingBy, IsNoted, IsPlace, IsRising, IsSearchInRange, IsSound, KeepsSettled, Knows, KnowsKeys, KnowsPlace, MakesSteps, MayVisit, Meets, Mine, NotWaited, Note, NotesThere, Numbers, OfPlace, ReadNothing, Reading, ReadsNothing, SeatReadsThere, SeatState, SessionData, SessionLocks, Settled, SpeaksFor, StaysTold, View, Visits, VisitsAndReschedules, Wait, all_but, all_next, all_numbers, all_owned, are_apart, are_below, are_below_told, are_at_pins, are_pins_known, are_rising, are_rising_places, are_two, but_at, but_own, caller, cons_option, filter, first_free, first_note, has_pin, increment_of, inserted, interleaved, is_answer_of, is_ask_apart, is_key_known, is_mode_of, is_newest, is_no_number, is_number, is_own, is_pinned, key_at, key_eq, key_known, kind_of, kind_pinned, last_read, list_all, note_at, noted_at, noting_version, option_and_then, option_map, option_map_or, option_or, own_after, owned, reads_at, told, with_place}
pub use Rattle.mdl_shared.specs.Rememberings.{AreAlike}
