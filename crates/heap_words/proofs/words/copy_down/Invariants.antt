use Rattle.std.proofs.Common.{◌-◌}
use Rattle.heap_words.proofs.Blocks.{IsMovedDown}
use Rattle.heap_words.proofs.words.copy_down.Given as goal

abbrev pub decreases-loop-done : goal.decreases-loop-done
decreases-loop-done l = l.size - l.done

abbrev pub invariant-loop-done : goal.invariant-loop-done
invariant-loop-done l = IsMovedDown l.fn.words l.words l.from l.to l.size l.done
