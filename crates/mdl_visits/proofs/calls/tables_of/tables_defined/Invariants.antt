-- The tables so far were asked, and there is room for the others.
use Rattle.std.proofs.Common.{◌+◌, ◌-◌, ◌≤◌, length, take}
use Rattle.mdl_visits.proofs.Lemmas.{AtItsTable, HasAsked, MakesQuietSteps, vec_capacity, vec_len}
use Rattle.mdl_visits.proofs.calls.tables_of.tables_defined.Given as goal

abbrev pub invariant-loop-table : goal.invariant-loop-table
invariant-loop-table g l = record {
  steps : AtItsTable l.fn.seat l.seat MakesQuietSteps;
  asked : HasAsked l.fn.seat.me.0.number (take l.table-index l.tables) l.places.items l.fn.seat.me l.seat.me;
  room : vec_len l.places + (length l.tables - l.table-index) ≤ vec_capacity l.places;
}
