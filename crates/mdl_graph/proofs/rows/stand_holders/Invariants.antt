-- Those who hold a ticket so far stand against the row.
use Rattle.std.proofs.Common.{◌≡◌, ◌≤◌, ℕ, length, take}
use Rattle.std.specs.Prelude.{◌&&◌, ◌||◌, ◌==◌}
use Rattle.std.specs.List.{list_any}
use Rattle.mdl_key.specs.Matrices.{clashes}
use Rattle.mdl_graph.specs.Searches.{holds}
use Rattle.mdl_graph.proofs.rows.stand_holders.Given as goal

abbrev pub invariant-loop-held : goal.invariant-loop-held
invariant-loop-held l = record {
  len : length l.fn.stands.items ≤ length l.stands.items;
  kept : take (length l.fn.stands.items) l.stands.items ≡ l.fn.stands.items;
  stands : (session one : ℕ) → holds l.stands.items session one
      ≡ (holds l.fn.stands.items session one
      || (l.row == one && list_any (λ held. held.session == session && clashes l.kind l.mode held.mode) (take l.held-index l.held-items)));
}
