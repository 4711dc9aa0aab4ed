use Rattle.heap_walk.proofs.Ways.{Writing}
use Rattle.heap_walk.proofs.paths.write_way.Given as goal

abbrev pub invariant-loop-place : goal.invariant-loop-place
invariant-loop-place l = Writing l.core l.fn.steps l.steps l.fn.root l.at l.room l.depth l.place l.left
