-- The classes so far, and then those of the rows that are left.
use Rattle.std.proofs.Common.{◌≡◌, drop, map}
use Rattle.std.specs.Prelude.{fold}
use Rattle.mdl_lock_rows.specs.declared.row.OtherRow.{OtherRow}
use Rattle.mdl_lock_rows.specs.Classes.{same_class}
use Rattle.mdl_lock_rows.specs.Numbering.{each_once, with_new}
use Rattle.mdl_lock_rows.proofs.left_out.class_set.Given as goal

abbrev pub invariant-loop-row : goal.invariant-loop-row
invariant-loop-row l =
    fold (with_new same_class) l.known.keys (map (λ (row : OtherRow). row.class) (drop l.row-index l.rows))
    ≡ each_once same_class (map (λ (row : OtherRow). row.class) l.rows)
