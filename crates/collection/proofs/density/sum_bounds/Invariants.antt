use Rattle.std.proofs.Common.{◌≡◌, ◌≤◌, ◌*◌}
use Rattle.regions.specs.Table.{kind_of}
use Rattle.step_core.specs.Measures.{sum_below}
use Rattle.collection.specs.Space.{bound_by_kind}
use Rattle.collection.proofs.density.sum_bounds.Given as goal

abbrev pub invariant-loop-number : goal.invariant-loop-number
invariant-loop-number l = record {
  summed : l.sum ≡ sum_below (λ k. bound_by_kind (kind_of l.core.table k) l.core k) l.number;
  small : l.sum ≤ l.number * 4294967295;
}
