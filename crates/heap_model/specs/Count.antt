-- How many names are reachable, and how many addresses are marked.
use Rattle.std.specs.Prelude.{◌≡◌, ℕ, Bool, true, List, Some, slice_get, length}
use Rattle.heap_model.specs.Graph.{Graph, IsReachable}

-- each reachable name is once in a list of this length, and nothing else is
pub record IsReachableCount (g : Graph) (n : ℕ) : Type 0 where
  pub names : List ℕ
  pub count : length names ≡ n
  pub distinct : (i j k : ℕ) → slice_get names i ≡ Some k → slice_get names j ≡ Some k → i ≡ j
  pub reachable : (i k : ℕ) → slice_get names i ≡ Some k → IsReachable g k
  pub each : (k : ℕ) → IsReachable g k → (i : ℕ) × (slice_get names i ≡ Some k)

-- each marked address is once in the list, and nothing else is
pub record ListsMarked (marked : ℕ → Bool) (marks : List ℕ) : Type 0 where
  pub distinct : (i j a : ℕ) → slice_get marks i ≡ Some a → slice_get marks j ≡ Some a → i ≡ j
  pub only : (i a : ℕ) → slice_get marks i ≡ Some a → marked a ≡ true
  pub each : (a : ℕ) → marked a ≡ true → (i : ℕ) × (slice_get marks i ≡ Some a)
