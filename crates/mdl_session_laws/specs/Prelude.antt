-- What the definitions of this crate cite of the library, of the crates below and of its own types, from one place.
pub use Rattle.mdl_calls.specs.FirstWords.{ChangesThere, ComesBefore, DrawsTicket, DrawsWait, FitsKey, HasMet, HasRead, HasSeen, HasTableOf, IsLast, IsNoted, IsRefusedFor, IsSettledAs, IsSound, KeepsSettled, Knows, LearnsPlace, LearnsTables, Meets, MeetsFault, NotesThere, ReadsNothing, ReadsThere, SessionData, SpeaksFor, Transition, are_below, are_at_pins, are_pins_known, are_rising_places, changing, cloning, ending, ends, first_free, gaining, is_newest, last_read, merging, noted_at, numbers_of, own_of, ticket_drawn, unpinning, upgraded, wait_drawn, waiting, was_read, winning}
pub use Rattle.mdl_calls.specs.Words.{Answer, AreTablesOf, At_place, AwaitsAt, Begin_wait, Call, Change_definition, Changed, Clone_ticket, Done, Downgrade, Draws, End_wait, Granted, Has_killed, Has_wait, Holds, HoldsAt, IsCause, IsChangeOf, IsEndOf, IsExplained, IsFit, IsRising, IsToldOf, Is_settled, Key_is, Key_of, Kill, Knowledge, List_held, Lost, MayClone, Merge, Numbers, OfHeld, Pending, Poll_wait, Read_definition, Read_kept, Reads, Refused, Release, Resolve, Search, SessionLocks, Settle_timeout, Tables, Tables_of, Timed_out, Try_now, Unpin, Upgrade_now, Upgraded, Victim_is, Wait, Wait_of, Waits, Would_wait, are_rising, caller, cause_of, giving_up, holds, is_answer_of, is_number, is_pinned, is_waiting, own_after, pinning, read_under, redefined_place, takes_memory, ticket_held, told, wait_number}
pub use Rattle.mdl_calls.specs.declared.answers.Held.{Held}
pub use Rattle.mdl_calls.specs.declared.answers.Settled.{Settled}
pub use Rattle.mdl_calls.specs.declared.answers.Settled.TheVariants.{Victim}
pub use Rattle.mdl_calls.specs.declared.space_error.SpaceError.TheVariants.{InUse, NoWait, OutOfMemory, Unsettled}
pub use Rattle.mdl_defs.specs.VersionedDefinitions.{MayStand, standing_after, standing_fault}
pub use Rattle.mdl_defs.specs.declared.change.Change.{Change}
pub use Rattle.mdl_defs.specs.declared.versioned_definition.VersionedDefinition.{VersionedDefinition}
pub use Rattle.mdl_key.specs.KeyLookups.{are_apart, are_two, is_known, key_known, place_known}
pub use Rattle.mdl_key.specs.Words.{KeyName, key_eq, same_mode}
pub use Rattle.mdl_key.specs.declared.known_key.KnownKey.{KnownKey}
pub use Rattle.mdl_key.specs.declared.mode.Mode.{Mode}
pub use Rattle.mdl_key.specs.declared.mode.Mode.TheVariants.{X}
