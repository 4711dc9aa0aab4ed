use Rattle.heap_view.specs.Search.{HasRoots}
use Rattle.heap_view.proofs.search.find_roots.Given as goal

abbrev pub invariant-loop-place : goal.invariant-loop-place
invariant-loop-place l = HasRoots l.core l.stages.items l.seen l.place
