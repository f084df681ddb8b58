-- The box of a manager, the parts of such a box, and a handle on it, as the walks see them.
use mir.Syntax.{impl, tnil, dnil}
use Rattle.std_heap.specs.contracts.Global as Heap
use Rattle.std_heap.specs.contracts.GlobalAllocator.TheImpl.{ghosts, dict}
use Rattle.std_heap.proofs.Global.TheLaws as heap
use Rattle.mdl_c_calls.specs.contracts.manager.ServedSpace as ServedSpace
use Rattle.mdl_c_calls.proofs.manager.ServedSpace.TheLaws as manager
use Rattle.mdl_c_parts.specs.contracts.parts.Parts as Parts
use Rattle.mdl_c_calls.specs.contracts.handle.Handle as Handle
use Rattle.mdl_c_parts.proofs.Walking.{[], Slot, plain, Bx}

-- the allocator of the program's memory, and what is in the box
abbrev pub boxed : Bx
boxed = record {
  row = ServedSpace.the_row;
  laws = manager.the_row_laws;
  al = record { row = Heap.the_row; laws = heap.the_row_laws; g = ghosts; d = dict; drops = impl [] tnil dnil };
}

abbrev pub a_part : Slot 0
a_part = plain (λ _. Parts.the_row ServedSpace.the_row Heap.the_row ghosts)

abbrev pub a_handle : Slot 0
a_handle = plain (λ _. Handle.the_row)
