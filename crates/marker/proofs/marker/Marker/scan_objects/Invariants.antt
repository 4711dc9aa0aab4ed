use Rattle.marker.proofs.Marking.{HasScanned}
use Rattle.marker.proofs.marker.Marker.scan_objects.Given as goal

abbrev pub invariant-loop-done : goal.invariant-loop-done
invariant-loop-done l = HasScanned l.table l.fn.self l.self l.done
