use Rattle.heap_view.proofs.Counting.{IsAlike}
use Rattle.heap_view.proofs.census.run_length.Given as goal

abbrev pub invariant-loop-place : goal.invariant-loop-place
invariant-loop-place l = IsAlike l.classes l.class l.from l.place
