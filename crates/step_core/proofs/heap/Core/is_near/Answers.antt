use Rattle.std.proofs.Common.{arith}
use Rattle.step_core.proofs.Mutating.Noting.{field_inside}
use Rattle.step_core.proofs.heap.Core.is_near.Goals as goal

pub overflow_cast-word : goal.overflow_cast-word
overflow_cast-word c =
    let inside = field_inside _ _ c.args.object c.args.field c.self.view_is c.self.invariant c.law.ensures c.requires.rooted
    c.requires.field in
    omega (arith, inside, c.law.ensures.in_all, c.field-word.ensures)
