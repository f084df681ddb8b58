-- What the C program's memory holds of a manager: a pointer to its box with the right to free it, or nothing.
use Rattle.std.specs.Prelude.{Option, Some, None}
use base.Fml.{Fml, ftrue}
use denote.RattleType.{RattleType}
use denote.RawPtr.{Ptr}
use Rattle.std.specs.Box.Ownership.{box_owns}
use Rattle.std.specs.Global.{Global}
use Rattle.std_heap.specs.contracts.GlobalAllocator.TheImpl.{ghosts}

-- the value at the pointer and the right to free its block, if there is a value
abbrev pub keeps : Global → (R : RattleType) → Ptr → Option R.Denot → Fml
keeps alloc R at None = ftrue
keeps alloc R at (Some value) = box_owns (ghosts.dealloc_token alloc) R at value
