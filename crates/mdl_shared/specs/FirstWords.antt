-- What `Prelude` passes on, and the first words of this crate, for the definitions that stand on them.
pub use Rattle.std.specs.Arc.{arc_value}
pub use Rattle.mdl_calls.specs.Limits.{is_within}
pub use Rattle.mdl_calls.specs.SessionLocks.{HasNothing}
pub use Rattle.mdl_calls.specs.declared.answers.Attempt.{Attempt}
pub use Rattle.mdl_calls.specs.declared.answers.Begun.{Begun}
pub use Rattle.mdl_calls.specs.declared.answers.TimedOut.TheVariants.{Already, ByThisCall}
pub use Rattle.mdl_defs.specs.Caches.{CacheView, Kept, is_of, kept_first, kept_of, looked_at}
pub use Rattle.mdl_defs.specs.declared.change.Change.{Change}
pub use Rattle.mdl_defs.specs.declared.definition.Definition.{Definition}
pub use Rattle.mdl_key.specs.declared.mode.Mode.TheVariants.{IX, X}
pub use Rattle.mdl_session_laws.specs.SessionJoins.{Joins, LearnsKeys, LetsRead, TellsTruly, ends_wait, wait_met}
pub use mathlib.Core.Option.{none, some, some-injective, some-ne-none}
pub use Rattle.mdl_shared.specs.Debts.{AreOwed, IsOwed, KeepsDebts, OwesNoMore, OwesSame, Pays, but_owing, owed_in}
pub use Rattle.mdl_shared.specs.DeedsDone.{DidDeeds, DoesQuietly, StaysFast}
pub use Rattle.mdl_shared.specs.Doings.{merge_deeds, rise_deeds, upgrade_deeds}
pub use Rattle.mdl_shared.specs.Members.{AreLearnt, IsMember, are_counted, are_within, holding_fault, increment_at, most_numbers, obtrudes_at, wish_fault, without_at}
pub use Rattle.mdl_shared.specs.Modes.{can_merge, clone_fault, downgrade_fault, in_mode_at, is_fit, merge_fault}
pub use Rattle.mdl_shared.specs.OwnLists.{as_held, asks_at, has_ticket_at, is_used, naming_fault}
pub use Rattle.mdl_shared.specs.Prelude.{AlreadyWaiting, Alter, Answer, AreAllTables, AreMet, AreStepsOf, Ask, At_place, BadMode, Begin_wait, Call, Change_definition, Changed, Clone_ticket, CounterFull, Deed, Done, Downgrade, End_wait, FindsObtrusive, Full, Gain, Granted, GrantsAtLast, HasAsked, HasMet, HasRescheduled, Has_killed, Has_wait, IsRefusedAs, Is_settled, KeyName, Key_of, Keys, Kill, Kind, KnownKey, List_held, Lose, Lost, MeetsBlocked, MeetsFull, MeetsFullWish, MeetsGrantable, MeetsNumber, MeetsOpening, MeetsOther, MeetsOwn, MeetsWait, Merge, MergesOwn, Misses, Mode, NoPlace, No_cycle, Opens, OutOfMemory, Pending, Poll_wait, Read_definition, Read_kept, Reads, Redefines, Refused, Release, ReleasesFast, Resolve, Search, SessionTicket, Settle_timeout, Settles, SettlesNothing, SpaceError, StepRecord, TableId, Tables, Tables_of, Timed_out, TookDirectory, Try_now, Unpin, Upgrade_now, Upgraded, VersionedDefinition, Victim_is, VisitsOnce, Wait_of, Waits, Would_wait, covers, enrolled_seat, exclusive_fault, granted_state, has_pin, is_known, is_waiting, kind_known, kind_pinned, list_any, lost_state, mine_without_wait, most_fast, numbered, own_at, place_known, session_count, settled_state, unknown, unsettled_state, wait_in, word_count, ℕ}
pub use Rattle.mdl_shared.specs.ReadSteps.{FindsVersion, MissesVersion, ReadsByLatch, ReadsVersion, VisitsInVain}
pub use Rattle.mdl_shared.specs.SessionViews.{KeepsLists, Lists, SessionView, StaysSame, all_tickets, data_of, lists_seen, note_of, session_at, settled_of, settled_told, tickets_seen}
pub use Rattle.mdl_shared.specs.StepSpec.{StepSpec, TakesSteps, gained_by, no_steps}
pub use Rattle.mdl_shared.specs.Steps.{EndsByOneStep, EndsOwnWait, GivesUpFast, GivesUpSlow, LooksAtKeys, LooksThen, LooksUp, MakesNoStep, MeetsOwnWait, MeetsTicket, OfTicket, ReadsSettled, ReadsUnsettled, Reschedules, SearchesFor, ShowsStep, StaysFor, own_wait_read}
pub use Rattle.mdl_shared.specs.TicketLists.{AreByPlace, HasRoom, KeepsRoom, Room, TicketList}
pub use Rattle.mdl_shared.specs.Upgrades.{can_have, upgrade_fault}
pub use Rattle.mdl_shared.specs.Waitings.{are_below_next, is_ask_last, is_ask_told, wait_fault}
pub use Rattle.mdl_shared.specs.WishSteps.{AllMadeSlow, ByLatch, ByVisit, FindsClosed, FromUnfast, FullForFast, IsCloned, IsClosed, IsGranted, IsNextFast, LacksMemory, LacksRoomForFast, LacksRoomForWish, MakesSlow, SlowsAll, SlowsInTurn, StopsOrVisits, StopsSlowing}
pub use Rattle.mdl_shared.specs.declared.cached.Cached.{Cached}
pub use Rattle.mdl_shared.specs.declared.cached.Cached.TheVariants.{Hit, Stale}
pub use Rattle.mdl_shared.specs.declared.fast_path.NotFast.{NotFast}
pub use Rattle.mdl_shared.specs.declared.fast_path.NotFast.TheVariants.{Contended, Limit, Obtruded}
pub use Rattle.mdl_shared.specs.declared.member.Member.{Member}
pub use Rattle.mdl_shared.specs.declared.try_fast.Fast.{Fast}
