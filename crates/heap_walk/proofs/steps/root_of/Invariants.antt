use Rattle.std.proofs.Common.{◌≡◌, ◌<◌, ℕ, []}
use Rattle.heap_walk.specs.Holders.{root_holders}
use Rattle.heap_walk.proofs.steps.root_of.Given as goal

abbrev pub invariant-loop-place : goal.invariant-loop-place
invariant-loop-place l = (p : ℕ) → p < l.place → root_holders l.core l.name p ≡ []
