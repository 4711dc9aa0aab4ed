use Rattle.step_core.specs.Rows.{HasGot}
use Rattle.step_core.proofs.heap.Core.get_row.Given as goal

abbrev pub invariant-loop-number : goal.invariant-loop-number
invariant-loop-number l = HasGot l.fn.self l.mutator l.to l.object l.from l.count l.at l.number l.self
