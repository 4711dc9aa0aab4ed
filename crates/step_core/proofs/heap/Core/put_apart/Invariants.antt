use Rattle.step_core.specs.Near.{HasPut}
use Rattle.step_core.proofs.heap.Core.put_apart.Given as goal

abbrev pub invariant-loop-field : goal.invariant-loop-field
invariant-loop-field l = HasPut l.fn.self l.mutator l.object l.from l.at l.field l.self
