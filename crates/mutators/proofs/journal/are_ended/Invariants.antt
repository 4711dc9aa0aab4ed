use Rattle.std.proofs.Common.{◌≤◌, ℕ, ◌<◌, length, get_or, map, []}
use Rattle.mutators.proofs.journal.are_ended.Given as goal

abbrev pub invariant-loop-k : goal.invariant-loop-k
invariant-loop-k l = (j : ℕ) → j < l.k → length (get_or (map (λ v. v.items) l.scripts) j []) ≤ get_or l.places j 0
