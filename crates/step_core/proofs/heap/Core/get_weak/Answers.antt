use Rattle.std.proofs.Common.{arith}
use Rattle.step_core.proofs.Mutating.Acting.{get_weak_past, refused_gets}
use Rattle.step_core.proofs.heap.Core.get_weak.Goals as goal

pub slot_count-requires : goal.slot_count-requires
slot_count-requires c = c.in-Some.ensures.rooted

pub returns-then-slot-slot_count : goal.returns-then-slot-slot_count
returns-then-slot-slot_count c = let l = c.in-Some.ensures.leads in
    refused_gets _ _ _ _ _ _ (λ g s. get_weak_past g _ s c.args.mutator c.args.object _ l c.args.to c.args.slot
    (let count = c.slot_count.ensures in omega arith))
