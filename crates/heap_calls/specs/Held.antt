-- What the pointer that a C program keeps owns: nothing, or a core in a box of the C library's heap.
use Rattle.std.specs.Prelude.{Bool, true, false, Option, Some, None}
use base.Fml.{Fml, ftrue}
use denote.RawPtr.{Ptr}
use Rattle.std_alloc.specs.Box.Ownership.{box_owns}
use Rattle.std_heap.specs.contracts.GlobalAllocator.TheImpl.{ghosts}
use Rattle.std_heap.specs.declared.Global.{Global}
use Rattle.step_core.specs.Stands.{CoreState}
use Rattle.step_core.specs.contracts.heap.Core.{the_row}

abbrev pub held : Ptr → Global → Option CoreState → Fml
held p a None = ftrue
held p a (Some c) = box_owns (ghosts.dealloc_token a) the_row p c

-- whether there is one
abbrev pub is_held : Option CoreState → Bool
is_held None = false
is_held (Some c) = true
