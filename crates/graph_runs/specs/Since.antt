-- What the graph has to do with the snapshot, since marking began.
use Rattle.std.specs.Prelude.{◌≡◌, ℕ, ◌+◌, ◌<◌, ◌⊎◌, Some, slice_get}
use Rattle.heap_model.specs.Graph.{Graph, Object, next_name, IsReachable}
pub use Rattle.heap_model.specs.Weak.{IsKnown}
use Rattle.graph_runs.specs.State.{State, HaveNoPairs, ForSnapshot}

-- Roots, and pointers of known objects, lead to known names. An older object is reachable in the snapshot, or has the pointers that
-- it had then. There are no pairs.
pub record IsSince (s g : Graph) : Type 0 where
  pub roots : (j n : ℕ) → slice_get g.roots j ≡ Some (Some n) → IsKnown s n
  pub pointers : (k i n : ℕ) (x : Object) → slice_get g.objects k ≡ Some x → IsKnown s (g.first_name + k)
      → slice_get x.pointers i ≡ Some (Some n) → IsKnown s n
  pub unreached : (k : ℕ) (x : Object) → slice_get g.objects k ≡ Some x → g.first_name + k < next_name s
      → IsReachable s (g.first_name + k) ⊎ ((p : Object) × (slice_get s.objects k ≡ Some p) × (x.pointers ≡ p.pointers))
  pub pairs : HaveNoPairs g

-- the state's graph is so since the state's snapshot was taken
abbrev pub IsSinceState : State → Type 0
IsSinceState st = ForSnapshot st.snapshot (λ s. IsSince s st.graph)
