use Rattle.marker.proofs.FollowedPairs.{IsPassing, passes_left}
use Rattle.marker.proofs.marker.Marker.follow_all_pairs.Given as goal

abbrev pub invariant-passes : goal.invariant-passes
invariant-passes l = IsPassing l.table l.fn.self l.self l.more

abbrev pub decreases-passes : goal.decreases-passes
decreases-passes l = passes_left l.self l.more
