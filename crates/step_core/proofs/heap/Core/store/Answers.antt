use Rattle.step_core.proofs.Mutating.Fields.{pointer_within}
use Rattle.step_core.proofs.Mutating.Near.{near_stores}
use Rattle.step_core.proofs.heap.Core.store.Goals as goal

pub is_near-requires-clause-field : goal.is_near-requires-clause-field
is_near-requires-clause-field c = pointer_within c.args.self.now.table c.args.object c.args.field c.requires.can.field

pub returns-then-is_near : goal.returns-then-is_near
returns-then-is_near c = near_stores c.args.self.now _ c.args.mutator c.args.object c.args.field c.args.target
    (c.is_near.ensures.near c.if-is_near.true) c.store_noted.ensures
