-- What is added is as all sessions behind it were.
use Rattle.std.proofs.Common.{◌≡◌, ℕ, ◌+◌, ◌-◌, vec_len}
use Rattle.mdl_view.specs.SessionSets.{has}
use Rattle.mdl_view.proofs.session_set.SessionSet.extend_to.Given as goal

abbrev pub invariant-loop-self : goal.invariant-loop-self
invariant-loop-self l = record {
  same : (other : ℕ) → has l.self other ≡ has l.fn.self other;
  rest : l.self.rest ≡ l.fn.self.rest;
}

abbrev pub decreases-loop-self : goal.decreases-loop-self
decreases-loop-self l = l.session + 1 - vec_len l.self.members
