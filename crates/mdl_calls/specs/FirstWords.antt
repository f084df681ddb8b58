-- What `Prelude` passes on, and the first words of this crate, for the definitions that stand on them.
pub use Rattle.mdl_calls.specs.CallSpec.{CallSpec, Explains, MayAsk, Transition, memory_cause, no_ticket_cause, no_wait_cause, read_cause, unchanged, wish_cause}
pub use Rattle.mdl_calls.specs.Causes.{IsUnknown, IsUnplaced, Knowledge, MayClone, MayDowngrade, MayNotClone, MayNotDowngrade, MayNotUpgrade, MayUpgrade, Mergeable, OfHeld}
pub use Rattle.mdl_calls.specs.Effects.{Begins, Clones, DrawsBy, Effect, Ends, Gains, GivesUp, Keeps, Lowers, Merges, Pins, Raises, Unpins, Wins, ends, own_by}
pub use Rattle.mdl_calls.specs.Interface.{Answer, At_place, Begin_wait, Call, Change_definition, Changed, Clone_ticket, Done, Downgrade, End_wait, Granted, Has_killed, Has_wait, Holds, Is_settled, Key_is, Key_of, Kill, List_held, Lost, Merge, No_cycle, Pending, Poll_wait, Read_definition, Read_kept, Reads, Refused, Release, Resolve, Search, Settle_timeout, Tables, Tables_of, Timed_out, Try_now, Unpin, Upgrade_now, Upgraded, Victim_is, Wait_of, Waits, Would_wait, change_takes_memory}
pub use Rattle.mdl_calls.specs.Learning.{KeepsSettled, LearnsPlace, LearnsTables}
pub use Rattle.mdl_calls.specs.Meetings.{ChangesThere, IsLast, IsRefusedFor, Meets, MeetsFault, NotesThere, ReadsInVain, ReadsNothing, ReadsThere}
pub use Rattle.mdl_calls.specs.Prelude.{AlreadyWaiting, BadMode, Bool, Change, CounterFull, Def, Definition, Full, Held, IfSome, InUse, KeyName, KnownKey, MayStand, Mode, NoPlace, NoWait, None, NotExclusive, NotHeld, NotUpgradable, Option, OutOfMemory, Settled, Some, SpaceError, Unsettled, VersionFull, VersionedDefinition, WrongKind, X, covers, false, key_known, option_map, place_known, same_mode, standing_after, true, ℕ}
pub use Rattle.mdl_calls.specs.Reads.{AwaitsAt, ComesBefore, HasTableOf, HoldsAt, IsChangeOf, cause_of, is_of_tables, is_table_of}
pub use Rattle.mdl_calls.specs.Runs.{Ask, Give, Grow, Program, Runs, outcome_of, ◌>>=◌}
pub use Rattle.mdl_calls.specs.SessionData.{FitsKey, HasMet, HasRead, HasSeen, IsNoted, IsSettledAs, IsSound, Knows, Note, SessionData, SpeaksFor, are_below, are_pins_known, first_free, is_newest, last_read, noted_at, numbers_of, own_of, was_read}
pub use Rattle.mdl_calls.specs.SessionLocks.{DrawsTicket, DrawsWait, HasNothing, Numbers, SessionLocks, are_at_pins, are_rising_places, changing, cloning, ending, gaining, holds, is_pinned, is_waiting, merging, pinning, ticket_drawn, ticket_held, unpinning, upgraded, wait_drawn, wait_number, waiting, winning, with_place, without_place}
