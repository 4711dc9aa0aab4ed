use Rattle.std.proofs.Common.{◌≡◌, ◌<◌, ℕ, Some}
use Rattle.std.specs.Prelude.{slice_get}
use Rattle.heap_view.specs.declared.search.Stage.{Stage}
use Rattle.heap_view.proofs.ways.place_of.Given as goal

abbrev pub invariant-loop-place : goal.invariant-loop-place
invariant-loop-place l = (k : ℕ) (s : Stage) → k < l.place → slice_get l.stages k ≡ Some s → s.at ≡ l.object → ⊥
