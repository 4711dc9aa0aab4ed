use Rattle.std.proofs.Common.{◌≡◌, ◌+◌, ◌*◌, ◌≤◌, length}
use Rattle.regions.specs.Walks.{placed, tiles_of}
use Rattle.heap_life.proofs.tile_text.has_few_tiles.Given as goal

abbrev pub invariant-loop-at : goal.invariant-loop-at
invariant-loop-at l = record {
  counted : l.count + length l._at-iterator ≡ length (placed (l.fn.region * l.table.words_per_region) (tiles_of l.table l.fn.region));
  few : l.count ≤ 400;
}
