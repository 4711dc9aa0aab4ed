use Rattle.std.proofs.Common.{◌≡◌, ◌≤◌}
use Rattle.regions.specs.Table.{kind_of}
use Rattle.step_core.specs.Measures.{sum_below}
use Rattle.collection.specs.Space.{ordinary_one}
use Rattle.collection.proofs.density.count_ordinary.Given as goal

abbrev pub invariant-loop-number : goal.invariant-loop-number
invariant-loop-number l = record {
  counted : l.count ≡ sum_below (λ k. ordinary_one (kind_of l.core.table k)) l.number;
  few : l.count ≤ l.number;
}
