use Rattle.std.proofs.Common.{◌≤◌, length}
use Rattle.heap_walk.proofs.Ways.{Searched}
use Rattle.heap_walk.proofs.paths.search.Given as goal

abbrev pub invariant-loop-low : goal.invariant-loop-low
invariant-loop-low l = record {
  found : Searched l.core l.name l.steps l.room l.low l.last l.depth;
  long : l.room ≤ length l.steps;
}

abbrev pub decreases-loop-low : goal.decreases-loop-low
decreases-loop-low l = l.last
