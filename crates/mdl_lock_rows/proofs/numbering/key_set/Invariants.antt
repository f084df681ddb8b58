-- The keys so far, and then those of the rows that are left.
use Rattle.std.proofs.Common.{◌≡◌, drop, map}
use Rattle.std.specs.Prelude.{fold}
use Rattle.mdl_lock_rows.specs.Keys.{same_key}
use Rattle.mdl_lock_rows.specs.Numbering.{keys_of, with_new}
use Rattle.mdl_lock_rows.proofs.numbering.key_set.Given as goal

abbrev pub invariant-loop-row : goal.invariant-loop-row
invariant-loop-row l = fold (with_new same_key) l.known.keys (map (λ row. row.key) (drop l.row-index l.rows)) ≡ keys_of l.rows
