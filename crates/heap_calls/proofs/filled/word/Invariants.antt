use Rattle.heap_calls.specs.Filled.{wording}
use Rattle.heap_calls.proofs.Filling.{HasFilled}
use Rattle.heap_calls.proofs.filled.word.Given as goal

abbrev pub invariant-loop-i : goal.invariant-loop-i
invariant-loop-i l = HasFilled l.fn.core (wording l.mutator l.to l.words) l.at l.i l.core
