use Rattle.std.proofs.Common.{◌≡◌, Some}
use Rattle.std.specs.Prelude.{slice_get}
use Rattle.heap_view.specs.declared.search.Stage.{Stage}
use Rattle.heap_view.proofs.WayBack.{IsBack}
use Rattle.heap_view.proofs.ways.way_to.Given as goal

abbrev pub invariant-loop-stage : goal.invariant-loop-stage
invariant-loop-stage l = (last : Stage) → slice_get l.stages l.place ≡ Some last → IsBack l.core l.stages last l.stage l.way.items

abbrev pub decreases-loop-stage : goal.decreases-loop-stage
decreases-loop-stage l = l.stage.depth
