-- The set has the first sessions, and each of it is in each set that has the first ones and that nobody goes on beside.
use Rattle.std.proofs.Common.{◌≡◌, ℕ}
use Rattle.std.specs.Prelude.{IsTrue}
use Rattle.mdl_view.specs.GoingOn.{Sessions, is_closed, is_gone}
use Rattle.mdl_view.specs.Passes.{waits_left}
use Rattle.mdl_view.specs.SessionSets.{has, taken_by}
use Rattle.mdl_view.proofs.going_on.end_in_turn.Given as goal

abbrev pub invariant-passes : goal.invariant-passes
invariant-passes l = record {
  grows : (session : ℕ) → IsTrue (has l.fn.ended session) → IsTrue (has l.ended session);
  sound : (other : Sessions) → ((session : ℕ) → IsTrue (has l.fn.ended session) → IsTrue (other session))
      → IsTrue (is_closed (is_gone (taken_by l.act) other) other l.locks) → (session : ℕ) → IsTrue (has l.ended session) → IsTrue (other session);
  rest : l.ended.rest ≡ l.fn.ended.rest;
}

abbrev pub decreases-passes : goal.decreases-passes
decreases-passes l = waits_left (has l.ended) l.locks
