-- Those of the waiting tickets so far were found.
use Rattle.std.proofs.Common.{◌≡◌, map, filter, take}
use Rattle.mdl_view.specs.GoingOn.{goes_on, is_gone, no_ticket}
use Rattle.mdl_view.specs.Passes.{AreKnown, session_of}
use Rattle.mdl_view.specs.SessionSets.{has, taken_by}
use Rattle.mdl_view.proofs.going_on.going_on_at.Given as goal

abbrev pub invariant-loop-ask : goal.invariant-loop-ask
invariant-loop-ask l = record {
  known : AreKnown l.lock no_ticket l.known.items;
  left : AreKnown l.lock (is_gone (taken_by l.act) (has l.ended)) l.left.items;
  found : l.found.items ≡ map session_of (filter (goes_on (is_gone (taken_by l.act) (has l.ended)) l.lock) (take l.ask-index l.lock.waiting));
}
