-- Those of the waiting tickets so far were taken out.
use Rattle.std.proofs.Common.{◌≡◌, ℕ, ◌&&◌, not, take}
use Rattle.std.specs.Prelude.{◌==◌}
use Rattle.std.specs.List.{list_any}
use Rattle.mdl_view.specs.Blockings.{is_blocked}
use Rattle.mdl_view.specs.GoingOn.{no_ticket}
use Rattle.mdl_view.specs.Passes.{AreKnown}
use Rattle.mdl_view.specs.SessionSets.{has}
use Rattle.mdl_view.proofs.stuck.remove_blocked_at.Given as goal

abbrev pub invariant-loop-ask : goal.invariant-loop-ask
invariant-loop-ask l = record {
  known : AreKnown l.lock no_ticket l.known.items;
  left : (session : ℕ) → has l.found session
      ≡ (has l.fn.found session && not (list_any (λ ask. (ask.session == session) && is_blocked l.lock ask) (take l.ask-index l.lock.waiting)));
}
