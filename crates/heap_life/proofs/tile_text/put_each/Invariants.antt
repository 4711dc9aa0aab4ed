use Rattle.std.specs.List.{flat_map}
use Rattle.regions.specs.Walks.{ArePlaced}
use Rattle.heap_dump.specs.Shares.{region_tiles}
use Rattle.heap_life.specs.RegionTexts.{tile_text}
use Rattle.heap_dump.proofs.Putting.{Leads}
use Rattle.heap_life.proofs.tile_text.put_each.Given as goal

abbrev pub invariant-loop-at : goal.invariant-loop-at
invariant-loop-at l = record {
  placed : ArePlaced l.core.table l.at-iterator;
  leads : Leads l.initial.text l.text (flat_map (tile_text l.core l.region) l.at-iterator)
      (flat_map (tile_text l.core l.region) (region_tiles l.core l.region));
}
