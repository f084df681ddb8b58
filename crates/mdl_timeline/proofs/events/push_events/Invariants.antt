-- The events so far are there.
use Rattle.std.proofs.Common.{◌≡◌, ◌++◌, map, take}
use Rattle.mdl_timeline.specs.Moments.{event_of}
use Rattle.mdl_timeline.proofs.events.push_events.Given as goal

abbrev pub invariant-loop-one : goal.invariant-loop-one
invariant-loop-one l = l.events.items ≡ l.fn.events.items ++ map (event_of l.statement l.books) (take l.one-index l.told)
