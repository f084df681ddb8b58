-- A handle may go from one thread to another, as a manager may.
use mir.Raw.{raw}
use base.Shift.{Keyless}
use denote.Memory.{lone}
use denote.RawPtr.{Ptr}
use denote.Struct.Owning.{shape, fields, to}
use denote.Struct.Struct.{exits_of}
use denote.Param.Send.{IsSend, AllSend, owning_send, struct_send, sendable}
use Rattle.std.specs.Prelude.{Option, Some, None}
use Rattle.std.specs.Global.{Global}
use Rattle.std.proofs.Crossing as heap
use Rattle.std_alloc.proofs.SendSync.{quiet, lies}
use Rattle.std_heap.proofs.Global.TheSendSync as allocator
use Rattle.mdl_c_parts.specs.Handles.{keeps}
use Rattle.mdl_c_calls.specs.contracts.manager.ServedSpace as ServedSpace
use Rattle.mdl_c_calls.proofs.manager.ServedSpace.TheSendSync.{the_send}
use Rattle.mdl_c_calls.specs.contracts.handle.Handle.{the_row, the_type}

-- what a handle keeps names no thread
keyless : (alloc : Global) (at : Ptr) (kept : Option ServedSpace.the_row.Denot) → Keyless (keeps alloc ServedSpace.the_row at kept)
keyless alloc at None = tt
keyless alloc at (Some core) = (lies ServedSpace.the_row the_send at core, heap.frees.frees alloc (raw (lone ServedSpace.the_row.mir)) at)

pub send : IsSend the_row
send =
    let all : AllSend (fields the_type) = (search sendable, (allocator.the_field_send, tt)) in
    owning_send the_type all (λ handle. keyless handle.alloc handle.at handle.manager)
    (λ exit. quiet (to the_type) (exits_of exit (fields the_type)) ((struct_send (shape the_type) all).leaving exit))
