use Rattle.std.proofs.Common.{◌≡◌, ◌≤◌, take}
use Rattle.heap_life.specs.Paces.{counted_with}
use Rattle.heap_life.proofs.pacing.count.Given as goal

abbrev pub invariant-loop-index : goal.invariant-loop-index
invariant-loop-index l = record {
  counted : l.count ≡ counted_with l.small (take l.index l.events);
  few : l.count ≤ l.index;
}
