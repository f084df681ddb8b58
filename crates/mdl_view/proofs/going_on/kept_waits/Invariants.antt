-- What was found, and what the locks behind have.
use Rattle.std.proofs.Common.{◌≡◌, ◌++◌, drop}
use Rattle.mdl_view.specs.Blockings.{waits_that}
use Rattle.mdl_view.specs.Passes.{is_kept}
use Rattle.mdl_view.specs.SessionSets.{has}
use Rattle.mdl_view.proofs.going_on.kept_waits.Given as goal

abbrev pub invariant-loop-place : goal.invariant-loop-place
invariant-loop-place l =
    l.found.items ++ waits_that (is_kept (has l.sessions) l.inside) l.place (drop l.place l.locks) ≡ waits_that (is_kept (has l.sessions) l.inside) 0 l.locks
