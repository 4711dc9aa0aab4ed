use Rattle.marker.specs.Views.{ended_marking_of}
use Rattle.marker.proofs.Swept.{IsLooking}
use Rattle.marker.proofs.marker.Marker.clear.Given as goal

abbrev pub invariant-loop-looked : goal.invariant-loop-looked
invariant-loop-looked l = IsLooking (ended_marking_of l.fn.table l.self) l.fn.table l.table l.fn.from l.left l.looked
