use Rattle.std.proofs.Common.{◌*◌}
use Rattle.heap_walk.specs.Starts.{NoneStarts}
use Rattle.heap_walk.proofs.starts.tile_of_regions.Given as goal

abbrev pub invariant-loop-number : goal.invariant-loop-number
invariant-loop-number l = NoneStarts l.table (l.fn.from * l.table.words_per_region) (l.number * l.table.words_per_region)
