-- Those of the waiting tickets so far were added.
use Rattle.std.proofs.Common.{◌≡◌, ◌++◌, map, filter, take}
use Rattle.mdl_view.specs.Blockings.{at_lock}
use Rattle.mdl_view.specs.GoingOn.{no_ticket}
use Rattle.mdl_view.specs.Passes.{AreKnown, is_kept}
use Rattle.mdl_view.specs.SessionSets.{has}
use Rattle.mdl_view.proofs.going_on.add_kept.Given as goal

abbrev pub invariant-loop-ask : goal.invariant-loop-ask
invariant-loop-ask l = record {
  known : AreKnown l.lock no_ticket l.known.items;
  found : l.found.items ≡ l.fn.found.items ++ map (at_lock l.place) (filter (is_kept (has l.sessions) l.inside l.lock) (take l.ask-index l.lock.waiting));
}
