use Rattle.std.proofs.Common.{◌≡◌, ◌-◌, ◌+◌, ◌*◌, ◌/◌}
use Rattle.evacuation.specs.Space.{IsSpaceObject}
use Rattle.evacuation.specs.Turns.{PauseGoesOn, space}
use Rattle.evacuation.specs.Cursors.{AreSettledBelow}
use Rattle.evacuation.proofs.copied.settle_region.Given as goal

abbrev pub ghost-settle_object : goal.ghost-settle_object
ghost-settle_object g a = g.pause

abbrev pub invariant-tiles : goal.invariant-tiles
invariant-tiles g l = record {
  on : PauseGoesOn g.pause l.initial.table l.table l.initial.context l.context;
  region : l.at / g.pause.start.words_per_region ≡ l.fn.region;
  object : IsSpaceObject (space g.pause l.table) l.at;
  done : AreSettledBelow g.pause l.context.noted l.table l.fn.region l.at;
}

abbrev pub decreases-tiles : goal.decreases-tiles
decreases-tiles g l = l.fn.region * g.pause.start.words_per_region + g.pause.start.words_per_region - l.at
