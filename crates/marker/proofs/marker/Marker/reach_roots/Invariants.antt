use Rattle.std.proofs.Common.{◌-◌, length}
use Rattle.marker.specs.Roots.{IsInFirst}
use Rattle.marker.proofs.Reached.{Reached}
use Rattle.marker.proofs.marker.Marker.reach_roots.Given as goal

abbrev pub invariant-loop-place : goal.invariant-loop-place
invariant-loop-place l = Reached l.table (IsInFirst l.roots.words l.from) l.initial.self l.self

abbrev pub decreases-loop-place : goal.decreases-loop-place
decreases-loop-place l = length l.roots.words - l.from
