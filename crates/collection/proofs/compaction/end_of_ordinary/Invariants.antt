use Rattle.std.proofs.Common.{◌≡◌, ◌≤◌, length}
use Rattle.collection.specs.Space.{ordinary_end, ordinary_end_of}
use Rattle.collection.proofs.compaction.end_of_ordinary.Given as goal

abbrev pub invariant-loop-number : goal.invariant-loop-number
invariant-loop-number l = record {
  within : l.number ≤ length l.core.table.regions;
  same : ordinary_end l.core.table ≡ ordinary_end_of l.core.table l.number;
}

abbrev pub decreases-loop-number : goal.decreases-loop-number
decreases-loop-number l = l.number
