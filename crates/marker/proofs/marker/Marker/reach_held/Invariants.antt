use Rattle.marker.proofs.FollowedPairs.{FollowsFirst}
use Rattle.marker.proofs.marker.Marker.reach_held.Given as goal

abbrev pub invariant-loop-slot : goal.invariant-loop-slot
invariant-loop-slot l = FollowsFirst l.table l.initial.self l.self l.object l.slot
