use Rattle.std.proofs.Common.{◌≡◌, ◌/◌, ◌+◌, ◌*◌, ◌-◌, List, Bool}
use Rattle.std.specs.Prelude.{IsSome}
use Rattle.regions.specs.Table.{tile_in}
use Rattle.evacuation.specs.Turns.{PauseGoesOn}
use Rattle.evacuation.specs.Cursors.{AreCleanBelow}
use Rattle.evacuation.proofs.outside.update_tiles.Given as goal

abbrev pub ghost-update_small : goal.ghost-update_small
ghost-update_small g a = g.pause

abbrev pub invariant-tiles : goal.invariant-tiles
invariant-tiles g l = record {
  on : PauseGoesOn g.pause l.initial.table l.table l.initial.context l.context;
  tile : IsSome (tile_in l.table l.at);
  region : l.at / g.pause.start.words_per_region ≡ l.fn.first / g.pause.start.words_per_region;
  clean : (visited : List Bool) → AreCleanBelow g.pause visited l.table l.place.card l.at;
}

abbrev pub decreases-tiles : goal.decreases-tiles
decreases-tiles g l = l.fn.first / g.pause.start.words_per_region * g.pause.start.words_per_region + g.pause.start.words_per_region - l.at
