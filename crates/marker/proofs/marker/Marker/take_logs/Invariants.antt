use Rattle.marker.proofs.Logs.{HasTaken}
use Rattle.marker.proofs.marker.Marker.take_logs.Given as goal

abbrev pub invariant-loop-mutator : goal.invariant-loop-mutator
invariant-loop-mutator l = HasTaken l.table l.fn.self l.self l.mutator
