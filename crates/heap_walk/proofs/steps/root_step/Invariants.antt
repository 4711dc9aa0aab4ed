use Rattle.std.proofs.Common.{◌<◌, ◌≤◌, ◌≡◌, ℕ, Some}
use Rattle.heap_walk.specs.Paths.{HoldsByRoot}
use Rattle.heap_walk.specs.Searching.{name_at}
use Rattle.heap_walk.specs.declared.holders.Holder.{Holder}
use Rattle.heap_walk.proofs.steps.root_step.Given as goal

abbrev pub invariant-loop-at : goal.invariant-loop-at
invariant-loop-at l = (x n : ℕ) (h : Holder) → l.fn.from ≤ x → x < l.at → name_at l.steps x ≡ Some n → HoldsByRoot l.core n h → ⊥
