use Rattle.std.proofs.Common.{◌<◌, ◌≤◌, ◌≡◌, ℕ, Some}
use Rattle.heap_walk.specs.Searching.{name_at}
use Rattle.heap_walk.proofs.steps.is_among.Given as goal

abbrev pub invariant-loop-at : goal.invariant-loop-at
invariant-loop-at l = (x : ℕ) → l.fn.from ≤ x → x < l.at → name_at l.steps x ≡ Some l.name → ⊥
