-- The words of this crate for those above it, from one place.
pub use Rattle.mdl_system.specs.BlockingLaws.{FreesNothing, IsAbout, IsGrantAt, WaitsForCause}
pub use Rattle.mdl_system.specs.BookLaws.{IsGrantedByLists, in_book, of_lock}
pub use Rattle.mdl_system.specs.Deadlocks.{DeadlocksGoThrough, HoldsAgainst, IsChosenDeadlock, IsDeadlock, IsStandingDeadlock, IsStandingVictimOf, IsVictimOf, Requests, StandsBehind, StandsWith, WaitsAhead, WaitsFor, Wishes}
pub use Rattle.mdl_system.specs.Events.{BeginWait, ChangeDefinition, Clone, Downgrade, ElseSame, EndGrantedWait, EndLostWait, Event, Gains, Grant, GrantWaiter, GrantsNew, Happens, IsNewNumber, LeavesOrder, Loses, Merge, Release, Replaces, Run, SameAt, SameElsewhere, SameMembers, SameSystem, SettleLost, TakesTurn, Upgrade, granted_wait}
pub use Rattle.mdl_system.specs.NumberingLaws.{IsWellNumbered}
pub use Rattle.mdl_system.specs.Strength.{covers, downgrades, may_downgrade, may_upgrade}
pub use Rattle.mdl_system.specs.Systems.{GrantedWait, HasNoWait, Held, Holding, IsGrantable, IsLawful, Killed, NoneForgotten, NoneForgottenAt, System, TimedOut, Unsettled, Versioned, Victim, WaitState, Waiter, empty_system, lock_kind}
