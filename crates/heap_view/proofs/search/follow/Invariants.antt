use Rattle.heap_view.specs.Search.{HasSearched, KeepsPlaces}
use Rattle.heap_view.proofs.search.follow.Given as goal

abbrev pub invariant-loop-index : goal.invariant-loop-index
invariant-loop-index l = HasSearched l.core l.stages.items l.seen l.place l.index × KeepsPlaces l.initial.stages.items l.stages.items
