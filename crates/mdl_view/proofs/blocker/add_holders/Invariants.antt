-- The sessions of the tickets so far were added.
use Rattle.std.proofs.Common.{◌≡◌, filter, take}
use Rattle.std.specs.Prelude.{fold}
use Rattle.mdl_view.specs.Blockings.{holds_against}
use Rattle.mdl_view.specs.Ways.{with_session}
use Rattle.mdl_view.proofs.blocker.add_holders.Given as goal

abbrev pub invariant-loop-held : goal.invariant-loop-held
invariant-loop-held l = l.found.items ≡ fold with_session l.fn.found.items (filter (holds_against l.lock l.ask) (take l.held-index l.lock.granted))
