use Rattle.std.proofs.Common.{◌≡◌, ◌-◌, ◌++◌, ℕ, List, length}
use Rattle.script_text.specs.Watched.{Gives}
use Rattle.script_text.proofs.read.awaited.LineBuffer.next_event.Given as goal

abbrev pub invariant-loop-taken : goal.invariant-loop-taken
invariant-loop-taken g l = (more : List ℕ) × Gives l.fn.reader l.reader more × (l.self ≡ l.fn.self ++ more)

abbrev pub decreases-loop-taken : goal.decreases-loop-taken
decreases-loop-taken g l = 121 - length l.self
