use Rattle.std.proofs.Common.{◌≤◌, ◌-◌}
use Rattle.collection.proofs.Sinking.{HasSunk}
use Rattle.collection.proofs.compaction.slide_down.Given as goal

abbrev pub invariant-loop-moved : goal.invariant-loop-moved
invariant-loop-moved g l = record {
  within : l.moved ≤ l.initial.core.config.regions;
  sunk : HasSunk g.W.Watch.sees l.moved l.initial.core l.initial.watch l.core l.watch;
}

abbrev pub decreases-loop-moved : goal.decreases-loop-moved
decreases-loop-moved g l = l.initial.core.config.regions - l.moved
