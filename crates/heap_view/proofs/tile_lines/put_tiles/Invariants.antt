use Rattle.std.specs.List.{flat_map}
use Rattle.regions.specs.Walks.{ArePlaced}
use Rattle.heap_dump.proofs.Putting.{Leads}
use Rattle.heap_view.specs.Tiles.{tile_line, tile_lines}
use Rattle.heap_view.proofs.tile_lines.put_tiles.Given as goal

abbrev pub invariant-loop-at : goal.invariant-loop-at
invariant-loop-at l = record {
  placed : ArePlaced l.core.table l.at-iterator;
  leads : Leads l.initial.text l.text (flat_map (tile_line l.core) l.at-iterator) (tile_lines l.core l.fn.region);
}
