use Rattle.std.proofs.Common.{◌∙◌, sym}
use Rattle.step_core.proofs.Mutating.Fields.{pointer_within}
use Rattle.step_core.proofs.Mutating.Near.{far_cards, noted_stores}
use Rattle.step_core.proofs.Mutating.Noting.{can_noted}
use Rattle.step_core.proofs.heap.Core.store_far.Goals as goal

pub note_far-requires-clause-field : goal.note_far-requires-clause-field
note_far-requires-clause-field c = pointer_within c.args.self.now.table c.args.object c.args.field c.requires.can.field

pub store_noted-requires-clause-can : goal.store_noted-requires-clause-can
store_noted-requires-clause-can c = can_noted c.args.self.now c.note_far.new.self c.args.object c.args.field c.args.target
    c.note_far.ensures.same c.requires.can

pub returns : goal.returns
returns c = noted_stores c.args.self.now c.note_far.new.self _ c.args.mutator c.args.object c.args.field c.args.target
    c.note_far.ensures.same (c.note_far.ensures.cards ∙ sym (far_cards c.args.self.now c.args.mutator _ c.args.target c.requires.far))
    c.store_noted.ensures
