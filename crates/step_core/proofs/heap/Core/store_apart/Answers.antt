use Rattle.step_core.proofs.Mutating.Fields.{pointer_within}
use Rattle.step_core.proofs.Mutating.Near.{noted_stores}
use Rattle.step_core.proofs.Mutating.Noting.{can_noted}
use Rattle.step_core.proofs.heap.Core.store_apart.Goals as goal

pub note-requires-clause-field : goal.note-requires-clause-field
note-requires-clause-field c = pointer_within c.args.self.now.table c.args.object c.args.field c.requires.can.field

pub store_noted-requires-clause-can : goal.store_noted-requires-clause-can
store_noted-requires-clause-can c = can_noted c.args.self.now c.note.new.self c.args.object c.args.field c.args.target c.note.ensures.same
    c.requires.can

pub returns : goal.returns
returns c = noted_stores c.args.self.now c.note.new.self _ c.args.mutator c.args.object c.args.field c.args.target c.note.ensures.same
    c.note.ensures.cards c.store_noted.ensures
