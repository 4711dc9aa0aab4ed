use Rattle.std.proofs.Common.{◌≡◌, ◌≤◌, ◌*◌}
use Rattle.step_core.specs.Measures.{sum_below}
use Rattle.heap_dump.specs.Numbers.{logged_of}
use Rattle.heap_dump.proofs.numbers.logged.Given as goal

abbrev pub invariant-loop-mutator : goal.invariant-loop-mutator
invariant-loop-mutator l = record {
  summed : l.sum ≡ sum_below (logged_of l.core) l.mutator;
  small : l.sum ≤ l.mutator * 4;
}
