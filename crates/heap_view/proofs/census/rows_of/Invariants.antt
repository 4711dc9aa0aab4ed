use Rattle.std.proofs.Common.{◌-◌, length}
use Rattle.heap_view.proofs.Counting.{IsCounted}
use Rattle.heap_view.proofs.census.rows_of.Given as goal

abbrev pub invariant-loop-place : goal.invariant-loop-place
invariant-loop-place l = IsCounted l.classes l.place l.rows.items

abbrev pub decreases-loop-place : goal.decreases-loop-place
decreases-loop-place l = length l.classes - l.place
