-- There are passes for the sessions that have a number so far.
use Rattle.std.proofs.Common.{◌≡◌, ◌-◌, length}
use Rattle.mdl_shared.proofs.Lemmas.{ArePasses, arc_value}
use Rattle.mdl_shared.proofs.manager.Manager.enrol_all.Given as goal

abbrev pub invariant-loop-passes : goal.invariant-loop-passes
invariant-loop-passes l = record {
  seated : l.maker.seat.table_id ≡ (arc_value l.table).shared.table_id;
  most : l.maker.most ≡ l.fn.maker.most;
  given : length l.passes.items ≡ l.maker.given;
  passes : ArePasses (arc_value l.table).shared.table_id l.passes.items;
}

abbrev pub decreases-loop-passes : goal.decreases-loop-passes
decreases-loop-passes l = l.maker.most - l.maker.given
