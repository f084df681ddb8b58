-- The names that most proofs of this crate cite: definitions, and lemmas of the library and of the crates below.
pub use Rattle.std.proofs.lemmas.Bool.{and_from, and_parts, cases_eq, false≢true, or_cases, or_left, or_parts, or_right}
pub use Rattle.std.proofs.lemmas.List.{append_cancel_left, map-append, map-set}
pub use Rattle.std.proofs.lemmas.List.Elements.{Contains-append_cases, Contains-append_left, Contains-append_right, Contains-get_or, Contains-push, Contains-push_cases}
pub use Rattle.std.specs.Option.{is_some, option_map, option_map_or, option_to_list}
pub use Rattle.atomic_table.proofs.Lists.{at_index, at_longer, at_map, at_set, at_snoc, set_else, set_here}
pub use Rattle.mdl_book.proofs.TicketLemmas.{find-contains, find-passes, parted}
pub use Rattle.mdl_book.specs.Granting.{goes_first, is_compatible, is_grantable, stands_beside}
pub use Rattle.mdl_steps.proofs.Lemmas.{Contains-interleaved_cases, Contains-interleaved_fast, Contains-interleaved_slow, May, MayAll, all_fast-noted, alone, alone_desk, alone_parts, asked_here, at_inside, at_unmap, by_bool, due_asked, each_at, gone_here, gone_rule, granted_rule, held_at-changed, held_at-dropped, held_at-first, held_at-past, held_at-unchanged, held_at-undropped, homes_length, is_itself, is_passed, kept_else, lost_rule, map_kept, materialised_rule, may_all, may_join, met_rule, none_after, not_there, of-mode_other, of-unwaited, of-without_own, of_other_number, once-mode, opened_rule, opens, other, owes_here, own_at-push, own_else-push, owned_else, released_rule, set_found, taken_rule, under, unfiltered, waiting_session, wish_grantable, wished, with_mode-hit, with_mode-miss, without-hit, without-miss}
pub use Rattle.mdl_steps.proofs.WaitFrame.{waits_else, waits_here}
pub use Rattle.mdl_steps.proofs.WaitTells.{asks_there}
pub use Rattle.mdl_system.proofs.BookLemmas.{changes-by_lists, grantable-by_lists, lawful-by_lists}
pub use Rattle.mdl_system.proofs.Deciding.{key_told, nat_told, ticket_told}
pub use Rattle.mdl_system.proofs.MemberLemmas.{Contains-flat_map, Contains-flat_map_from, Contains-map, Contains-map_from, Contains-none, any-found, any-from, push-gains}
pub use Rattle.mdl_system.proofs.OrderLemmas.{Contains-cons_cases, Contains-here, Contains-later, middle, within}
pub use Rattle.mdl_system.specs.DeadlockLaws.{begins_wait}
pub use Rattle.mdl_steps_laws.specs.FirstWords.{Alter, Ask, BeginWait, BookView, Change, ChangeDefinition, Clone, Deed, Definition, Downgrade, EndGrantedWait, EndLostWait, Gain, Grant, GrantWaiter, HasNoWait, HasPlace, IsWholeChange, KeyName, Keys, LatchRecord, Lose, Makes, Merge, Mine, Mode, Reached, Release, Rule, SameSystem, SeesNoDeadlock, SettleLost, Slot, State, Step, StepRecord, System, TableChange, Ticket, Unsettled, Upgrade, VersionedDefinition, View, WaitState, after_first, all_booked, applied, asked_ticket, before_first, empty_book, filter, flags_lowered, flat_map, get_elem?, held_at, latch_word, list_all, list_any, lock_word, of_lock, read_and_put, redefined, slow_flag, some, standing_after, ticket_by, unlatched, version_word, wait_in, wait_word, waits}
pub use Rattle.mdl_steps_laws.specs.Prelude.{Act, Cell, ChangesDefinition, ClonesTicket, Desk, Distinct, Downgrades, Each, ElseSame, Event, Gains, GrantedWait, GrantsNew, Happens, Held, Holder, Holding, IsAtLeast, IsGrantable, IsNewNumber, IsOpening, IsUnlike, IsWhole, Killed, Lawful, LeavesOrder, Loses, MayDo, MayJoin, Maybe, Merges, NotedCounts, Once, OnlyMeets, Part, PlaceOk, Record, Releases, Replaces, SameAt, SameElsewhere, SameMembers, SameWaits, SessionTicket, TakesTurn, TimedOut, Upgrades, Versioned, Victim, Waiter, all_fast, all_next, all_owned, blank, booked, but_at, but_own, cell, desk_of, done, due, fast_at, fast_own, frees, holder_at, in_book, in_mode, interleaved, is_own, is_ticket, kept_of, key_at, logged, lowered, moved, next_after, no_numbers, note_at, noted_version, noting, noting_found, noting_version, numbers_for, opening, own_at, owned, part_at, raised, redefining, restood, some-injective, some-ne-none, standing_fault, taken_over, ticket_of, waiter_of, with_admitted, with_cancelled, with_granted, with_mode, with_waiting, without}
pub use Rattle.mdl_steps_laws.specs.Words.{AreKeysOf, AreLocksOf, Brings, BringsDeeds, BringsDeedsAt, BringsOrRests, DefinitionsStay, EachStepHappensOrRests, EachStepIsOneEvent, Follow, FreeLocksAreInOrder, HasNoted, HasRead, HitsNote, IfMet, IsBookAt, IsGrantedWait, IsKeyAt, IsOf, IsOnly, IsTold, LearnsOf, Lock, LoweringBrings, NextNumbersAreNew, NotesStay, OnePlaceIsOneLock, OwnTicketsAreHeld, PuttingBrings, ReadingsNote, ReadsStand, Rests, RunningTablesAreLawful, RunningTablesTellASystem, RunningTablesTellWaits, Stands, Tells, TellsWaits, Under, VersionsNote, WritingBrings, after_lowering, after_put, after_writing, code_of, empty_lock, granted_of, lost_as, versioned}
