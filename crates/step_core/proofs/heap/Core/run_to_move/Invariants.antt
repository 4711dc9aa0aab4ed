use Rattle.std.proofs.Common.{◌-◌, length}
use Rattle.step_core.proofs.Pauses.Lowest.{HasSearched}
use Rattle.step_core.proofs.heap.Core.run_to_move.Given as goal

abbrev pub invariant-loop-number : goal.invariant-loop-number
invariant-loop-number l = HasSearched l.self l.words l.number l.to

abbrev pub decreases-loop-number : goal.decreases-loop-number
decreases-loop-number l = length l.self.table.regions - l.number
