-- A search for ways: from the roots on, along pointers, each object once.
use Rattle.std.specs.Prelude.{◌≡◌, ◌+◌, ◌<◌, ◌≤◌, ℕ, zero, suc, Bool, true, false, List, [], ◌∷◌, ◌++◌, Option, Some, None, IsSome}
use Rattle.std.specs.Prelude.{length, slice_get, slice_set}
use Rattle.bit_sets.specs.Bits.{has}
use Rattle.regions.specs.Table.{pointers_at}
use Rattle.step_core.specs.Stands.{CoreState, kept_of, name_of}
use Rattle.step_core.specs.Mutators.{root_of}
use Rattle.heap_walk.specs.Paths.{HoldsByPointer, IsWay}
use Rattle.heap_walk.specs.Starts.{word_count}
use Rattle.heap_walk.specs.declared.holders.Holder.{Holder}
use Rattle.heap_view.specs.declared.search.Stage.{Stage}

-- ---- what is found
-- a pointer of the object at one address leads to another address
pub record PointsTo (c : CoreState) (a b : ℕ) : Type 0 where
  pub index : ℕ
  pub leads : slice_get (pointers_at c.table a) index ≡ Some (Some b)

-- an object that a root names
pub record IsFromRoot (c : CoreState) (s : Stage) : Type 0 where
  pub place : s.from < length c.roots
  pub leads : root_of c s.from ≡ Some s.at

-- an object that a pointer of another one names, which was found so many objects from a root
pub record IsFromObject (c : CoreState) (q : List Stage) (s : Stage) (d : ℕ) : Type 0 where
  pub before : Stage
  pub there : slice_get q s.from ≡ Some before
  pub depth : before.depth ≡ d
  pub leads : PointsTo c before.at s.at

-- how an object was found, by how many objects are between a root and it
abbrev pub IsFoundBy : CoreState → List Stage → Stage → ℕ → Type 0
IsFoundBy c q s zero = IsFromRoot c s
IsFoundBy c q s (suc d) = IsFromObject c q s d

-- the object at an address is found, with at most so many objects between a root and it
pub record IsReached (q : List Stage) (a d : ℕ) : Type 0 where
  pub place : ℕ
  pub stage : Stage
  pub there : slice_get q place ≡ Some stage
  pub at : stage.at ≡ a
  pub near : stage.depth ≤ d

-- how many numbers aren't in a set
abbrev pub left_out : List Bool → ℕ
left_out [] = 0
left_out (true ∷ flags) = left_out flags
left_out (false ∷ flags) = suc (left_out flags)

-- these are kept objects, each found once, and the set has their addresses
pub record AreFound (c : CoreState) (q : List Stage) (seen : List Bool) : Type 0 where
  pub each : (i : ℕ) (s : Stage) → slice_get q i ≡ Some s → IsFoundBy c q s s.depth
  pub kept : (i : ℕ) (s : Stage) → slice_get q i ≡ Some s → IsSome (kept_of c s.at)
  pub short : (i : ℕ) (s : Stage) → slice_get q i ≡ Some s → s.depth ≤ i
  pub once : (i j : ℕ) (s t : Stage) → slice_get q i ≡ Some s → slice_get q j ≡ Some t → s.at ≡ t.at → i ≡ j
  pub noted : (i : ℕ) (s : Stage) → slice_get q i ≡ Some s → has seen s.at ≡ true
  pub found : (a : ℕ) → has seen a ≡ true → (d : ℕ) × IsReached q a d
  pub room : length seen ≡ word_count c.table
  pub counted : length q + left_out seen ≡ length seen

-- an object came to those that are found, unless it was among them
pub record Finds (seen seen' : List Bool) (q q' : List Stage) (s : Stage) : Type 0 where
  pub known : has seen s.at ≡ true → (seen' ≡ seen) × (q' ≡ q)
  pub fresh : has seen s.at ≡ false → (seen' ≡ slice_set seen s.at true) × (q' ≡ q ++ s ∷ [])

-- what was found stays where it is among those that are found
abbrev pub KeepsPlaces : List Stage → List Stage → Type 0
KeepsPlaces q q' = (i : ℕ) (s : Stage) → slice_get q i ≡ Some s → slice_get q' i ≡ Some s

-- ---- the search, step by step
-- what the roots below a place name is found
pub record HasRoots (c : CoreState) (q : List Stage) (seen : List Bool) (place : ℕ) : Type 0 where
  pub are : AreFound c q seen
  pub flat : (i : ℕ) (s : Stage) → slice_get q i ≡ Some s → s.depth ≡ 0
  pub roots : (p a : ℕ) → p < place → root_of c p ≡ Some a → IsReached q a 0

-- What the roots name is found, and what the pointers of the objects below a place name, and the pointers below an index of the object
-- there: each with one object more in between. Objects come by how many these are, and none has two more than the one at the place
pub record HasSearched (c : CoreState) (q : List Stage) (seen : List Bool) (place index : ℕ) : Type 0 where
  pub are : AreFound c q seen
  pub roots : (p a : ℕ) → root_of c p ≡ Some a → IsReached q a 0
  pub sorted : (i j : ℕ) (s t : Stage) → i ≤ j → slice_get q i ≡ Some s → slice_get q j ≡ Some t → s.depth ≤ t.depth
  pub near : (i : ℕ) (s t : Stage) → slice_get q place ≡ Some s → slice_get q i ≡ Some t → t.depth ≤ suc s.depth
  pub closed : (i k b : ℕ) (s : Stage) → i < place → slice_get q i ≡ Some s → slice_get (pointers_at c.table s.at) k ≡ Some (Some b)
      → IsReached q b (suc s.depth)
  pub part : (k b : ℕ) (s : Stage) → k < index → slice_get q place ≡ Some s → slice_get (pointers_at c.table s.at) k ≡ Some (Some b)
      → IsReached q b (suc s.depth)

-- all that roots lead to is found, each with as few objects between a root and it as there can be
pub record IsSearch (c : CoreState) (q : List Stage) : Type 0 where
  pub seen : List Bool
  pub over : HasSearched c q seen (length q) 0

-- ---- the way back
-- where the object at an address is among them, if it is
abbrev pub IsPlaceOf : List Stage → ℕ → Option ℕ → Type 0
IsPlaceOf q a None = (i : ℕ) (s : Stage) → slice_get q i ≡ Some s → s.at ≡ a → ⊥
IsPlaceOf q a (Some i) = (s : Stage) × (slice_get q i ≡ Some s) × (s.at ≡ a)

-- the entry of an object whose pointer leads to another one
abbrev pub IsLink : CoreState → ℕ → ℕ → Holder → Type 0
IsLink c a b h = (name_of (kept_of c a) ≡ Some h.name) × ((n : ℕ) → name_of (kept_of c b) ≡ Some n → HoldsByPointer c n h)

-- a way to the object at an address, with so many objects between the root and it
abbrev pub IsWayTo : CoreState → ℕ → ℕ → List Holder → Type 0
IsWayTo c a d hs = (length hs ≡ suc d) × ((n : ℕ) → name_of (kept_of c a) ≡ Some n → IsWay c hs n)
