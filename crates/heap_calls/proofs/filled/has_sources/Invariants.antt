use Rattle.std.specs.Prelude.{ℕ, ◌<◌, slice_index}
use Rattle.heap_calls.specs.Filled.{IsSource}
use Rattle.heap_calls.proofs.filled.has_sources.Given as goal

abbrev pub invariant-loop-number : goal.invariant-loop-number
invariant-loop-number l = (i : ℕ) → i < l.number-index → IsSource l.core.config l.to (slice_index l.from i)
