use Rattle.marker.proofs.Reached.{Reached}
use Rattle.marker.proofs.Logs.{IsEarly}
use Rattle.marker.proofs.marker.Marker.reach_all.Given as goal

abbrev pub invariant-loop-place : goal.invariant-loop-place
invariant-loop-place l = Reached l.table (IsEarly l.log l.place) l.initial.self l.self
