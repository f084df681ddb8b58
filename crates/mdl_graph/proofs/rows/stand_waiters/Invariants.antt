-- Those who wait so far stand against the row.
use Rattle.std.proofs.Common.{◌≡◌, ◌≤◌, ℕ, length, take}
use Rattle.std.specs.Prelude.{◌&&◌, ◌||◌, ◌==◌}
use Rattle.std.specs.FinSet as set
use Rattle.std.specs.List.{list_any}
use Rattle.mdl_key.specs.Matrices.{waits_behind}
use Rattle.mdl_graph.specs.WaitsFor.{is_unsettled}
use Rattle.mdl_graph.specs.Searches.{holds}
use Rattle.mdl_graph.proofs.rows.stand_waiters.Given as goal

abbrev pub invariant-loop-pending : goal.invariant-loop-pending
invariant-loop-pending l = record {
  len : length l.fn.stands.items ≤ length l.stands.items;
  kept : take (length l.fn.stands.items) l.stands.items ≡ l.fn.stands.items;
  stands : (session one : ℕ) → holds l.stands.items session one
      ≡ (holds l.fn.stands.items session one
      || (l.row == one && (is_unsettled (set.contains l.settled) session
      && list_any (λ pending. pending.session == session && waits_behind l.kind l.mode pending.mode) (take l.pending-index l.pending-items))));
}
