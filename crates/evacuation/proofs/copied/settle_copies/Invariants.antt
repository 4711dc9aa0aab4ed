use Rattle.std.proofs.Common.{◌-◌, ◌^◌}
use Rattle.evacuation.specs.Turns.{PauseGoesOn}
use Rattle.evacuation.proofs.Loops.Destinations.{AreRegionsSettled}
use Rattle.evacuation.proofs.copied.settle_copies.Given as goal

abbrev pub ghost-settle_region : goal.ghost-settle_region
ghost-settle_region g a = g.pause

abbrev pub invariant-loop-region : goal.invariant-loop-region
invariant-loop-region g l = record {
  on : PauseGoesOn g.pause l.initial.table l.table l.initial.context l.context;
  done : AreRegionsSettled g.pause l.context.noted l.table l.context.destinations l.n;
}

abbrev pub decreases-loop-region : goal.decreases-loop-region
decreases-loop-region g l = 2 ^ 64 - l.n
