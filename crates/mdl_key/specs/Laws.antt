-- Laws of the matrices and of strength, after MySQL 5.7: sql/mdl.cc, the compatibility and the priority matrices.
use Rattle.mdl_key.specs.declared.namespace.Kind.{Kind}
use Rattle.mdl_key.specs.declared.mode.Mode.{Mode}
use Rattle.mdl_key.specs.Matrices.{Clashes, WaitsBehind}
use Rattle.mdl_key.specs.Classes.{IsAtLeast}

-- if a request for one mode clashes with a lock in another, a request for the other clashes with a lock in the first
abbrev pub ClashingIsSymmetric : Type 0
ClashingIsSymmetric = (kind : Kind) (a b : Mode) → Clashes kind a b → Clashes kind b a

-- a request waits behind another only if it clashes with the other's mode
abbrev pub WaitsOnlyWhereItClashes : Type 0
WaitsOnlyWhereItClashes = (kind : Kind) (ask pending : Mode) → WaitsBehind kind ask pending → Clashes kind ask pending

-- being at least as strong is reflexive and transitive
abbrev pub StrengthIsAPreorder : Type 0
StrengthIsAPreorder =
    ((kind : Kind) (a : Mode) → IsAtLeast kind a a)
    × ((kind : Kind) (a b c : Mode) → IsAtLeast kind a b → IsAtLeast kind b c → IsAtLeast kind a c)
