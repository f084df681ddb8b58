-- The words of this crate for those above it, from one place.
pub use Rattle.mdl_calls.specs.AllCalls.{Draws, IsCause, IsClear, IsExplained, IsToldOf, caller, is_answer_of, own_after, read_under, reads_with_cache, redefined_place, takes_memory, told}
pub use Rattle.mdl_calls.specs.Caches.{AreMet, CacheAfter, with_cache}
pub use Rattle.mdl_calls.specs.Causes.{IsFit, IsUnfit, IsUnknown, Knowledge, MayClone, MayDowngrade, MayNotClone, MayNotDowngrade, MayNotUpgrade, MayUpgrade, Mergeable, OfHeld, may_merge}
pub use Rattle.mdl_calls.specs.Faithful.{Each, EachCall, IsFaithful, IsFrugal, StepsOrWants}
pub use Rattle.mdl_calls.specs.Interface.{Answer, At_place, Begin_wait, Call, Change_definition, Changed, Clone_ticket, Done, Downgrade, End_wait, Granted, Has_killed, Has_wait, Holds, Is_settled, Key_is, Key_of, Kill, List_held, Lost, Merge, No_cycle, Pending, Poll_wait, Read_definition, Read_kept, Reads, Refused, Release, Resolve, Search, Settle_timeout, Tables, Tables_of, Timed_out, Try_now, Unpin, Upgrade_now, Upgraded, Victim_is, Wait_of, Waits, Would_wait, attempted, begun, change_takes_memory, cloned, done, ended, finds_no_memory, keyed, listed, placed, polled, read, redefined, searched, tables_told, timed_out, upgrade_tried}
pub use Rattle.mdl_calls.specs.Limits.{is_within, new_fault}
pub use Rattle.mdl_calls.specs.SessionLocks.{HasNothing, IsRising, Numbers, SessionLocks, Wait, are_at_pins, are_rising, are_rising_places, cloning, ending, gaining, giving_up, holds, is_number, is_pinned, is_waiting, pinning, ticket_drawn, ticket_held, unpinning, wait_number, winning, with_place, without_place}
pub use Rattle.mdl_calls.specs.Reads.{AreTablesOf, AwaitsAt, HoldsAt, IsChangeOf, cause_of, is_table_of}
pub use Rattle.mdl_calls.specs.Runs.{Ask, Give, Grow, Program, Runs, outcome_of, ◌>>=◌, ◌>>◌}
pub use Rattle.mdl_calls.specs.Searches.{Cut_off, Failed, IsStarvedSearch, Over, SearchEnd, after_search, most_searches}
unfoldable pub use Rattle.mdl_calls.specs.Searches.{seeking}
pub use Rattle.mdl_calls.specs.Waits.{IsEndOf}
