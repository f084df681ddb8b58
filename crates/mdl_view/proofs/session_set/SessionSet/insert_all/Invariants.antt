-- Those so far were put in.
use Rattle.std.proofs.Common.{◌≡◌, ℕ, ◌||◌, take}
use Rattle.std.specs.Prelude.{◌==◌}
use Rattle.std.specs.List.{list_any}
use Rattle.mdl_view.specs.SessionSets.{has}
use Rattle.mdl_view.proofs.session_set.SessionSet.insert_all.Given as goal

abbrev pub invariant-loop-session : goal.invariant-loop-session
invariant-loop-session l = record {
  put : (other : ℕ) → has l.self other ≡ (has l.fn.self other || list_any (λ session. other == session) (take l.session-index l.sessions));
  rest : l.self.rest ≡ l.fn.self.rest;
}
