-- What the definitions of this crate cite of the library, of the crates below and of its own types, from one place.
pub use Rattle.atomic_table.specs.Table.{State, Step}
pub use Rattle.mdl_defs.specs.declared.definition.Definition.{Definition}
pub use Rattle.mdl_graph.specs.Cycles.{is_chosen_before}
pub use Rattle.mdl_key.specs.Words.{KeyName, clashes, kind_of, waits_behind, weight_of}
pub use Rattle.mdl_steps.specs.Words.{HasPlace, IsWholeChange, Makes, Mine, Reached, Rule, SeatState, TableChange, all_booked, held_at, holder_at, key_at, logged, noting_found, version_word, wait_in, wait_word, waits}
pub use Rattle.mdl_steps.specs.declared.slot.Slot.{Slot}
pub use Rattle.mdl_steps.specs.declared.view.Keys.{Keys}
pub use Rattle.mdl_steps.specs.declared.view.StepRecord.{StepRecord}
pub use Rattle.mdl_steps.specs.declared.view.View.{View}
pub use Rattle.mdl_steps_laws.specs.Words.{IsTold, MakesOneStep, code_of}
pub use Rattle.mdl_system.specs.Deadlocks.{AsksAhead, HoldsAgainst, IsCycle, IsDeadlock, IsStandingDeadlock, IsStandingVictimOf, IsVictimOf, Leads, Requests, StandsBehind, StandsWith, WaitsFor, Wishes}
pub use Rattle.mdl_system.specs.Systems.{Killed, System, TimedOut, Unsettled, WaitState, Waiter}
pub use Rattle.mdl_visits.specs.Words.{AreRecorded, AsksDirectory, Searched, SettlesVictim, books_of, settled_by}
pub use Rattle.mdl_visits.specs.declared.waits_read.WaitRead.{WaitRead}
