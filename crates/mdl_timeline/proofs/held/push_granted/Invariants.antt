-- The tickets so far are there.
use Rattle.std.proofs.Common.{◌≡◌, ◌++◌, map, take}
use Rattle.mdl_timeline.specs.Moments.{held_as}
use Rattle.mdl_timeline.proofs.held.push_granted.Given as goal

abbrev pub invariant-loop-ticket : goal.invariant-loop-ticket
invariant-loop-ticket l = l.held.items ≡ l.fn.held.items ++ map (held_as l.key) (take l.ticket-index l.granted)
