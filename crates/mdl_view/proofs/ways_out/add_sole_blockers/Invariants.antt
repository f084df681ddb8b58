-- Those of the waiting tickets so far were found.
use Rattle.std.proofs.Common.{◌≡◌, ℕ, ◌||◌, true, take}
use Rattle.std.specs.List.{list_any}
use Rattle.mdl_view.specs.GoingOn.{no_ticket}
use Rattle.mdl_view.specs.Passes.{AreKnown, is_alone_before}
use Rattle.mdl_view.specs.SessionSets.{has}
use Rattle.mdl_view.proofs.ways_out.add_sole_blockers.Given as goal

abbrev pub invariant-loop-ask : goal.invariant-loop-ask
invariant-loop-ask l = record {
  known : AreKnown l.lock no_ticket l.known.items;
  put : (session : ℕ) → (has l.fn.found session || list_any (is_alone_before l.lock session) (take l.ask-index l.lock.waiting)) ≡ true
      → has l.found session ≡ true;
  rest : l.found.rest ≡ l.fn.found.rest;
}
