-- The names that most proofs of this crate cite: definitions, and lemmas of the library and of the crates below.
pub use Rattle.std.proofs.lemmas.Bool.{and_parts, or_cases}
pub use Rattle.std.proofs.lemmas.List.Elements.{All-contains, Contains-append_right}
pub use Rattle.std.specs.Option.{option_map, option_map_or}
pub use Rattle.atomic_table.proofs.Lists.{at_map, at_set}
pub use Rattle.mdl_book.specs.Books.{empty_book, lock_kind, redefining}
pub use Rattle.mdl_book.specs.declared.book_view.BookView.{BookView}
pub use Rattle.mdl_graph.specs.GraphLaws.{IsWaiting, sessions_of}
pub use Rattle.mdl_graph.specs.WaitsFor.{SessionTest, holds_against, is_tied, is_unsettled, waits_ahead, waits_at, waits_for}
pub use Rattle.mdl_graph.specs.declared.cycle.Member.{Member}
pub use Rattle.mdl_steps.specs.declared.view.LatchRecord.{LatchRecord}
pub use Rattle.mdl_system.proofs.Deciding.{nat_told}
pub use Rattle.mdl_system.proofs.MemberLemmas.{AreApart, Contains-map_from, Contains-none, any-found, apart-first, apart-rest}
pub use Rattle.mdl_system.proofs.OrderLemmas.{Contains-cons_cases, Contains-here, Contains-later}
pub use lib.ListN.{get_elem?}
pub use mathlib.Core.Option.{some, some-injective}
pub use Rattle.mdl_visits_laws.specs.Prelude.{AreRecorded, AsksAhead, Definition, HasPlace, HoldsAgainst, IsCycle, IsDeadlock, IsStandingDeadlock, IsStandingVictimOf, IsTold, IsVictimOf, IsWholeChange, KeyName, Keys, Killed, Leads, Makes, Mine, Reached, Requests, Rule, Slot, StandsBehind, StandsWith, State, Step, StepRecord, System, TableChange, TimedOut, Unsettled, View, WaitRead, WaitState, Waiter, WaitsFor, Wishes, all_booked, books_of, clashes, code_of, held_at, holder_at, is_chosen_before, key_at, kind_of, logged, noting_found, settled_by, version_word, wait_in, wait_word, waits, waits_behind, weight_of}
pub use Rattle.mdl_visits_laws.specs.Victims.{AllWait, HasReadAll, VictimsFallInStandingDeadlocks, WasReadBefore, settling_of}
