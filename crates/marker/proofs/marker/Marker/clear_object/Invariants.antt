use Rattle.marker.specs.Views.{ended_marking_of}
use Rattle.marker.proofs.Slots.{IsPartly}
use Rattle.marker.proofs.marker.Marker.clear_object.Given as goal

abbrev pub invariant-loop-slot : goal.invariant-loop-slot
invariant-loop-slot l = IsPartly (ended_marking_of l.fn.table l.self) l.fn.table l.table l.object l.slot
