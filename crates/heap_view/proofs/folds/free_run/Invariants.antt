use Rattle.heap_view.proofs.FreeRegions.{IsCounted}
use Rattle.heap_view.proofs.folds.free_run.Given as goal

abbrev pub invariant-loop-number : goal.invariant-loop-number
invariant-loop-number l = IsCounted l.table l.from l.number
