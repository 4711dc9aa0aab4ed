use Rattle.step_core.specs.Rows.{HasStored, writing_each}
use Rattle.step_core.proofs.heap.Core.write_row.Given as goal

abbrev pub invariant-loop-number : goal.invariant-loop-number
invariant-loop-number l = HasStored l.fn.self (writing_each l.mutator l.object l.from l.word) l.at l.number l.self
