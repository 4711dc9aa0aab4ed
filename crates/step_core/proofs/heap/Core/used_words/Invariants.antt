use Rattle.std.proofs.Common.{◌≡◌, ◌≤◌, ◌*◌}
use Rattle.regions.specs.Table.{used_of}
use Rattle.step_core.specs.Measures.{sum_below}
use Rattle.step_core.proofs.heap.Core.used_words.Given as goal

abbrev pub invariant-loop-number : goal.invariant-loop-number
invariant-loop-number l = record { summed : l.sum ≡ sum_below (used_of l.self.table) l.number; small : l.sum ≤ l.number * 4294967295 }
