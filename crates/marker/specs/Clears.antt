-- The clearing of weak slots in the table, once marking is over.
use Rattle.std.specs.Prelude.{◌≡◌, ◌≢◌, ℕ, ◌≤◌, ◌⊎◌, List, true, false, Option, Some, None, length, slice_get, IsSome}
use Rattle.heap_model.specs.Graph.{held_by}
use Rattle.heap_model.specs.Heap.{Heap, Stored}
use Rattle.heap_model.specs.Clearing.{HasWeak, IsPassed}
use Rattle.heap_model.specs.Marking.{Marking}
use Rattle.heap_model.specs.Weak.{cleared_object}
use Rattle.regions.specs.Table.{Table, object_at, tile_in, kind_of, top_of, used_of, HasNoForwarded}
use Rattle.regions.specs.WeakStarts.{HasWeaks}

-- the object at an address is kept once marking is over: it is marked or new
abbrev pub IsStaying : Marking → ℕ → Type 0
IsStaying m a = (m.marked a ≡ true) ⊎ (m.old a ≡ false)

-- in some objects that stay, the weak slots whose targets are old and unmarked are nil now, in those that are done among them, and
-- nothing else changed
pub record ClearsSome (m : Marking) (t t' : Table) (done : ℕ → Type 0) : Type 0 where
  pub size : t'.words_per_region ≡ t.words_per_region
  pub count : length t'.regions ≡ length t.regions
  pub kinds : (k : ℕ) → kind_of t' k ≡ kind_of t k
  pub tops : (k : ℕ) → top_of t' k ≡ top_of t k
  pub unmoved : HasNoForwarded t → HasNoForwarded t'
  pub each : (a : ℕ) → (object_at t' a ≡ object_at t a) ⊎ (IsStaying m a × (object_at t' a ≡ cleared_object m (object_at t a)))
  pub done_is : (a : ℕ) → done a → IsStaying m a → object_at t' a ≡ cleared_object m (object_at t a)
  pub tiles : (a : ℕ) → object_at t a ≡ None → tile_in t' a ≡ tile_in t a

-- what the nil keys of one object held is nil now, and nothing else changed
pub record DropsHeld (t t' : Table) (x : ℕ) : Type 0 where
  pub object : Stored
  pub was : object_at t x ≡ Some object
  pub size : t'.words_per_region ≡ t.words_per_region
  pub count : length t'.regions ≡ length t.regions
  pub kinds : (k : ℕ) → kind_of t' k ≡ kind_of t k
  pub used : (k : ℕ) → used_of t' k ≡ used_of t k
  pub unmoved : HasNoForwarded t → HasNoForwarded t'
  pub is : object_at t' x ≡ Some (record object { held = held_by object.weaks object.held })
  pub others : (y : ℕ) → y ≢ x → tile_in t' y ≡ tile_in t y

-- the weak slots of one object are cleared, with what they held, and nothing else changed
pub record HasCleared (m : Marking) (t t' : Table) (x : ℕ) : Type 0 where
  pub object : Stored
  pub was : object_at t x ≡ Some object
  pub size : t'.words_per_region ≡ t.words_per_region
  pub count : length t'.regions ≡ length t.regions
  pub kinds : (k : ℕ) → kind_of t' k ≡ kind_of t k
  pub tops : (k : ℕ) → top_of t' k ≡ top_of t k
  pub unmoved : HasNoForwarded t → HasNoForwarded t'
  pub is : object_at t' x ≡ cleared_object m (object_at t x)
  pub others : (y : ℕ) → y ≢ x → tile_in t' y ≡ tile_in t y

-- they are if the object stays, and else nothing changed
abbrev pub ClearsStaying : Marking → Table → Table → ℕ → Type 0
ClearsStaying m t t' x = (IsStaying m x × HasCleared m t t' x) ⊎ ((IsStaying m x → ⊥) × (t' ≡ t))

-- the addresses from one on that clearing has passed
abbrev pub IsBetween : ℕ → Option ℕ → ℕ → Type 0
IsBetween from left a = (from ≤ a) × IsPassed left a

-- The objects with weak slots that are there are so many: they are in a list, each once, and no others
pub record LooksAt (t : Table) (from : ℕ) (left : Option ℕ) (n : ℕ) : Type 0 where
  pub objects : List ℕ
  pub count : n ≡ length objects
  pub distinct : (i j a : ℕ) → slice_get objects i ≡ Some a → slice_get objects j ≡ Some a → i ≡ j
  pub only : (i a : ℕ) → slice_get objects i ≡ Some a → IsBetween from left a × HasWeaks t a
  pub each : (a : ℕ) → IsBetween from left a → HasWeaks t a → (i : ℕ) × (slice_get objects i ≡ Some a)

-- each weak slot of a kept object leads to an object of the table, kept or not
abbrev pub LeadIntoTable : Table → Heap → Type 0
LeadIntoTable t h = (a b : ℕ) → HasWeak h a b → IsSome (object_at t b)
