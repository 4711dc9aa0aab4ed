use Rattle.std.proofs.Common.{◌≡◌, ◌≤◌, ◌*◌}
use Rattle.step_core.specs.Measures.{sum_below, live_in}
use Rattle.step_core.proofs.heap.Core.live_words.Given as goal

abbrev pub invariant-loop-number : goal.invariant-loop-number
invariant-loop-number l = record { summed : l.sum ≡ sum_below (live_in l.self) l.number; small : l.sum ≤ l.number * 4294967295 }
