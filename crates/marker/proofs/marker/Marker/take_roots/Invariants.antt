use Rattle.marker.proofs.Waits.{HasTakenRoots}
use Rattle.marker.proofs.marker.Marker.take_roots.Given as goal

abbrev pub invariant-loop-taken : goal.invariant-loop-taken
invariant-loop-taken l = HasTakenRoots l.table l.fn.self l.self l.taken
