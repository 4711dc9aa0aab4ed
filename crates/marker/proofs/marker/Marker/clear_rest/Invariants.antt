use Rattle.marker.specs.Views.{ended_marking_of}
use Rattle.marker.proofs.Swept.{IsSweep, left_over}
use Rattle.marker.proofs.marker.Marker.clear_rest.Given as goal

abbrev pub invariant-loop-left : goal.invariant-loop-left
invariant-loop-left l = IsSweep (ended_marking_of l.fn.table l.self) l.fn.table l.table l.fn.from l.left

abbrev pub decreases-loop-left : goal.decreases-loop-left
decreases-loop-left l = left_over l.left
