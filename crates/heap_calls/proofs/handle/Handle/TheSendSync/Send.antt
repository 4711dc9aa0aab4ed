-- A handle may pass to another thread: what it owns says the same to each.
use Rattle.std.proofs.Common.{Option, Some, None}
use mir.Raw.{raw}
use base.Shift.{Keyless}
use denote.Memory.{lone}
use denote.RawPtr.{Ptr}
use denote.Struct.Struct.{exits_of}
use denote.Struct.Owning.{shape, fields, to}
use denote.Param.Send.{IsSend, AllSend, owning_send, struct_send, sendable}
use Rattle.std.proofs.Crossing as heap
use Rattle.std_alloc.proofs.SendSync.{quiet, lies}
use Rattle.std_heap.proofs.Global.TheSendSync as handle
use Rattle.std_heap.specs.declared.Global.{Global}
use Rattle.step_core.specs.Stands.{CoreState}
use Rattle.step_core.specs.contracts.heap.Core as Core
use Rattle.step_core.proofs.heap.Core.TheSendSync.{the_send as core}
use Rattle.heap_calls.specs.Held.{held}
use Rattle.heap_calls.specs.contracts.handle.Handle.{the_row, the_type}

held_keyless : (p : Ptr) (a : Global) (c : Option CoreState) → Keyless (held p a c)
held_keyless p a None = tt
held_keyless p a (Some c) = (lies Core.the_row core p c, heap.frees.frees a (raw (lone Core.the_row.mir)) p)

pub send : IsSend the_row
send =
    let all : AllSend (fields the_type) = (search sendable, (handle.the_field_send, tt)) in
    owning_send the_type all (λ d. held_keyless d.at d.alloc d.core)
    (λ k. quiet (to the_type) (exits_of k (fields the_type)) ((struct_send (shape the_type) all).leaving k))
