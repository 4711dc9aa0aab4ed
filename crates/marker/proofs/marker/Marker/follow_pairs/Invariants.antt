use Rattle.marker.proofs.Swept.{left_over}
use Rattle.marker.proofs.FollowedPairs.{IsPass}
use Rattle.marker.proofs.marker.Marker.follow_pairs.Given as goal

abbrev pub invariant-loop-left : goal.invariant-loop-left
invariant-loop-left l = IsPass l.table l.fn.self l.self l.left

abbrev pub decreases-loop-left : goal.decreases-loop-left
decreases-loop-left l = left_over l.left
