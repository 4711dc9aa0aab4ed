use Rattle.std.proofs.Common.{◌-◌, ◌≤◌, length}
use Rattle.heap_walk.specs.Starts.{word_count}
use Rattle.heap_view.specs.Search.{HasSearched}
use Rattle.heap_view.proofs.search.search.Given as goal

abbrev pub invariant-loop-place : goal.invariant-loop-place
invariant-loop-place l = (l.place ≤ length l.stages.items) × HasSearched l.core l.stages.items l.seen l.place 0

abbrev pub decreases-loop-place : goal.decreases-loop-place
decreases-loop-place l = word_count l.core.table - l.place
