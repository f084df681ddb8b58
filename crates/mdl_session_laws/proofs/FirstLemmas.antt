-- What `Common` passes on, and the first lemmas of this crate, for the lemmas that stand on them.
pub use Rattle.mdl_session_laws.proofs.Common.{Answer, Call, Draws, End_wait, Held, IsLast, Joins, KeepsSettled, KeyName, KnownKey, Knows, LearnsKeys, LetsRead, Numbers, Poll_wait, Read_definition, Read_kept, Reading, ReadsNothing, Refused, Resolve, SessionData, SessionLocks, Settled, SpaceError, SpaceLaws, SpeaksFor, Try_now, VersionedDefinition, are_apart, are_below, caller, effect_of, ends_wait, eqb_tells, false≢true, is_answer_of, is_known, is_newest, key_known, last_read, nat_tests, noted_at, own_after, place_known, told, wait_met, was_read}
pub use Rattle.mdl_session_laws.proofs.KeyLists.{apart-last, is-known, keeps-known, key-of_place, known-is, last-known, place-of_key, stays-known}
pub use Rattle.mdl_session_laws.proofs.ReadLists.{last-among, last-elsewhere, last-here, last-keeps, last-newest, last-newest_elsewhere, last-stays, last-was_read, newest-above, newest-up}
pub use Rattle.mdl_session_laws.proofs.RefusedCalls.{KeepsAll, reads-nothing, refused-joins}
pub use Rattle.mdl_session_laws.proofs.TicketLists.{all-among, all-changed, all-fewer, all-found, all-last, below-up, rising-changed, rising-fewer, rising-last}
pub use Rattle.mdl_session_laws.specs.Prelude.{AreTablesOf, At_place, AwaitsAt, Begin_wait, Change, Change_definition, Changed, ChangesThere, Clone_ticket, ComesBefore, Done, Downgrade, DrawsTicket, DrawsWait, FitsKey, Granted, HasMet, HasRead, HasSeen, HasTableOf, Has_killed, Has_wait, Holds, HoldsAt, InUse, IsChangeOf, IsEndOf, IsExplained, IsNoted, IsRefusedFor, IsRising, IsSettledAs, IsSound, IsToldOf, Is_settled, Key_is, Key_of, Kill, Knowledge, LearnsPlace, LearnsTables, List_held, Lost, MayClone, MayStand, Meets, MeetsFault, Merge, Mode, NoWait, NotesThere, OfHeld, OutOfMemory, Pending, Reads, ReadsThere, Release, Search, Settle_timeout, Tables, Tables_of, Timed_out, Unpin, Unsettled, Upgrade_now, Upgraded, Victim, Victim_is, Wait, Wait_of, Waits, Would_wait, X, are_at_pins, are_pins_known, are_rising_places, cause_of, changing, cloning, ending, first_free, gaining, giving_up, holds, is_number, is_pinned, is_waiting, merging, numbers_of, own_of, pinning, read_under, redefined_place, same_mode, standing_after, standing_fault, ticket_drawn, ticket_held, unpinning, upgraded, wait_drawn, wait_number, waiting, winning}
