-- A pass over the locks so far.
use Rattle.std.proofs.Common.{◌≡◌, take}
use Rattle.mdl_view.specs.Passes.{Proceeds}
use Rattle.mdl_view.specs.SessionSets.{has, taken_by}
use Rattle.mdl_view.proofs.going_on.go_on.Given as goal

abbrev pub invariant-loop-lock : goal.invariant-loop-lock
invariant-loop-lock l = record {
  value : Proceeds (taken_by l.act) (take l.lock-index l.locks) (has l.fn.ended) (has l.ended) l.some;
  rest : l.ended.rest ≡ l.fn.ended.rest;
}
