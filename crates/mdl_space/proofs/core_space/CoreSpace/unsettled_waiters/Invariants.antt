-- The sessions of the tickets that were looked at, whose waits are unsettled.
use Rattle.std.proofs.Common.{◌≡◌, ℕ, ◌&&◌, take}
use Rattle.std.specs.FinSet as set
use Rattle.std.specs.List.{list_any}
use Rattle.mdl_core.specs.Words.{has_unsettled_wait}
use Rattle.mdl_space.proofs.ServingLemmas.{is_of}
use Rattle.mdl_space.proofs.core_space.CoreSpace.unsettled_waiters.Given as goal

abbrev pub invariant-loop-ticket : goal.invariant-loop-ticket
invariant-loop-ticket l = (who : ℕ) → set.contains l.unsettled who ≡ (list_any (is_of who) (take l.ticket-index l.waiting) && has_unsettled_wait who l.self)
