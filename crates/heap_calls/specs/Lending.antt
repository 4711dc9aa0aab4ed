-- What a heap's handle ends with, where its core was lent.
use Rattle.std.specs.Prelude.{Some}
use Rattle.std.specs.Borrow.{Lends, MutBor, Fml}
use Rattle.step_core.specs.Stands.{CoreState}
use Rattle.step_core.specs.contracts.heap.Core as core
use Rattle.heap_calls.specs.declared.handle.Handle.{Handle}
use Rattle.heap_calls.specs.contracts.handle.Handle.{the_row}

-- a handle of another core, where it was
abbrev pub with_core : Handle → CoreState → Handle
with_core h c = record { at = h.at; alloc = h.alloc; core = Some c }

-- the handle ends with what is left of its core
abbrev pub LendsCore : MutBor Handle → MutBor CoreState → Fml
LendsCore h r = Lends the_row core.the_row h r (with_core h.now)
