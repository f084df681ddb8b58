-- So many parts were looked at.
use Rattle.std.proofs.Common.{◌≡◌, Bor, ℕ, List, map, take}
use Rattle.mdl_client_table.specs.Escapes.{name_of}
use Rattle.mdl_client_table.proofs.pieces.unescaped_fields.Given as goal

abbrev pub invariant-loop-part : goal.invariant-loop-part
invariant-loop-part l = l.fields.items ≡ map (λ (part : Bor (List ℕ)). name_of part.now) (take l.part-index l.parts)
