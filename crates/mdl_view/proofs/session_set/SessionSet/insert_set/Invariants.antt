-- Those below the number so far were put in.
use Rattle.std.proofs.Common.{◌≡◌, ℕ, ◌&&◌, ◌||◌}
use Rattle.std.specs.Prelude.{nat_lt}
use Rattle.mdl_view.specs.SessionSets.{has}
use Rattle.mdl_view.proofs.session_set.SessionSet.insert_set.Given as goal

abbrev pub invariant-loop-session : goal.invariant-loop-session
invariant-loop-session l = (session : ℕ) → has l.self session ≡ (has l.fn.self session || (nat_lt session l.session && has l.other session))
