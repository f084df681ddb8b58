-- So far there are books for the places below this one.
use Rattle.std.proofs.Common.{◌≡◌}
use Rattle.mdl_steps.specs.Openings.{opening_slots}
use Rattle.mdl_steps.proofs.opening.opening_slots.Given as goal

abbrev pub invariant-loop-place : goal.invariant-loop-place
invariant-loop-place l = l.slots.items ≡ opening_slots l._place
