use Rattle.std.proofs.Common.{◌≡◌, ◌≤◌, ◌<◌, ℕ}
use Rattle.std.specs.Prelude.{◌≢◌}
use Rattle.regions.specs.Table.{kind_of}
use Rattle.regions.specs.declared.row.Kind.TheVariants as kinds
use Rattle.step_core.specs.Pause.{free_below}
use Rattle.step_core.proofs.highest.highest_below.Given as goal

abbrev pub invariant-loop-number : goal.invariant-loop-number
invariant-loop-number l = record {
  within : l.number ≤ l.from;
  free : l.free_below ≡ free_below l.table l.number;
  none : (k : ℕ) → l.number ≤ k → k < l.from → kind_of l.table k ≢ kinds.Ordinary;
}

abbrev pub decreases-loop-number : goal.decreases-loop-number
decreases-loop-number l = l.number
