use Rattle.step_core.specs.Rows.{HasStored, putting_each}
use Rattle.step_core.proofs.heap.Core.put_row.Given as goal

abbrev pub invariant-loop-number : goal.invariant-loop-number
invariant-loop-number l = HasStored l.fn.self (putting_each l.mutator l.object l.from l.source) l.at l.number l.self
