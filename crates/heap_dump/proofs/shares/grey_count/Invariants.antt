use Rattle.std.proofs.Common.{◌≡◌, ◌≤◌, ◌+◌}
use Rattle.std.specs.Prelude.{min}
use Rattle.regions.specs.Walks.{ArePlaced}
use Rattle.heap_dump.specs.Shares.{grey_in, grey_objects}
use Rattle.heap_dump.proofs.shares.grey_count.Given as goal

abbrev pub invariant-loop-at : goal.invariant-loop-at
invariant-loop-at l = record {
  placed : ArePlaced l.core.table l.at-iterator;
  fits : l.count ≤ 4294967295;
  counted : min (l.count + grey_in l.core l.at-iterator) 4294967295 ≡ grey_objects l.core l.fn.region;
}
