-- So many keys were looked at.
use Rattle.std.proofs.Common.{◌≡◌, map, take}
use Rattle.mdl_view.specs.Locks.{empty_lock}
use Rattle.mdl_lock_rows.specs.Keys.{KeyNames, kind_of_type}
use Rattle.mdl_lock_rows.proofs.locks.new_locks.Given as goal

abbrev pub invariant-loop-key : goal.invariant-loop-key
invariant-loop-key l = l.locks.items ≡ map (λ (key : KeyNames). empty_lock (kind_of_type key.object_type)) (take l.key-index l.keys)
