use Rattle.heap_walk.specs.Starts.{place_of}
use Rattle.heap_walk.proofs.Keeping.{IsSearch, left_over}
use Rattle.heap_walk.proofs.kept.kept_from.Given as goal

abbrev pub invariant-loop-left : goal.invariant-loop-left
invariant-loop-left l = IsSearch l.core (place_of l.core.table l.initial.left) l.left

abbrev pub decreases-loop-left : goal.decreases-loop-left
decreases-loop-left l = left_over l.core.table l.left
