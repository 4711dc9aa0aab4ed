-- A shortest way from a root to an object.
use Rattle.std.specs.Prelude.{◌≡◌, ◌<◌, ◌≤◌, ℕ, zero, suc, List, [], ◌∷◌, Option, Some, None, length, take, slice_get, min}
use Rattle.heap_model.specs.Graph.{Graph, Object, RootCounts, object_named}
use Rattle.graph_runs.specs.State.{root_counts_of}
use Rattle.step_core.specs.Stands.{CoreState, kept_of}
use Rattle.heap_walk.specs.Holders.{holder_if, root_holder, root_holders}
use Rattle.heap_walk.specs.declared.holders.Holder.{Holder}

-- an entry of who holds the object of a name: a root's
pub record HoldsByRoot (c : CoreState) (n : ℕ) (h : Holder) : Type 0 where
  pub place : ℕ
  pub below : place < length c.roots
  pub told : root_holders c n place ≡ h ∷ []

-- and that of a kept object, by a pointer, not by a weak slot
pub record HoldsByPointer (c : CoreState) (n : ℕ) (h : Holder) : Type 0 where
  pub address : ℕ
  pub told : holder_if c n address (kept_of c address) ≡ h ∷ []
  pub strong : h.kind ≡ 2

-- from the object of one name to that of another: each entry is of the object that the one before it holds
abbrev pub Leads : CoreState → ℕ → List Holder → ℕ → Type 0
Leads c m [] n = m ≡ n
Leads c m (h ∷ hs) n = (h.name ≡ m) × ((next : ℕ) × HoldsByPointer c next h × Leads c next hs n)

-- a way from a root to the object of a name: the first entry is the root's, and the last one's holds the object
abbrev pub IsWay : CoreState → List Holder → ℕ → Type 0
IsWay c [] n = ⊥
IsWay c (h ∷ hs) n = (m : ℕ) × HoldsByRoot c m h × Leads c m hs n

-- no way has fewer entries
pub record IsShortest (c : CoreState) (hs : List Holder) (n : ℕ) : Type 0 where
  pub way : IsWay c hs n
  pub least : (other : List Holder) → IsWay c other n → length hs ≤ length other

-- so many names, each once, of the object and of objects that lead to it
pub record HasMany (c : CoreState) (n count : ℕ) : Type 0 where
  pub names : List ℕ
  pub counted : length names ≡ count
  pub once : (i j m : ℕ) → slice_get names i ≡ Some m → slice_get names j ≡ Some m → i ≡ j
  pub lead : (i m : ℕ) → slice_get names i ≡ Some m → (hs : List Holder) × Leads c m hs n

-- what a search uses of a buffer
abbrev pub room_of : ℕ → ℕ
room_of n = min n 4294967295

-- none: no way is there; else a buffer begins with a shortest one, of so many entries
abbrev pub TellsCount : CoreState → ℕ → List Holder → ℕ → Type 0
TellsCount c n after zero = (hs : List Holder) → IsWay c hs n → ⊥
TellsCount c n after (suc k) = (suc k ≤ length after) × IsShortest c (take (suc k) after) n

-- what a search for a way to the object of a name tells: how many entries it has; or that as many objects lead there as there is room for
abbrev pub TellsWay : CoreState → ℕ → List Holder → List Holder → Option ℕ → Type 0
TellsWay c n before after None = HasMany c n (room_of (length before))
TellsWay c n before after (Some count) = TellsCount c n after count

-- ---- in the graph
-- a root names the object of a name, and this is its entry
pub record NamesByRoot (g : Graph) (counts : RootCounts) (m : ℕ) (h : Holder) : Type 0 where
  pub place : ℕ
  pub entry : root_holder counts place ≡ h
  pub named : slice_get g.roots place ≡ Some (Some m)

-- the object of an entry names that of another name by the pointer that the entry tells
pub record NamesByField (g : Graph) (h : Holder) (n : ℕ) : Type 0 where
  pub object : Object
  pub named : object_named g h.name ≡ Some object
  pub holds : slice_get object.pointers h.place ≡ Some (Some n)

abbrev pub LeadsIn : Graph → ℕ → List Holder → ℕ → Type 0
LeadsIn g m [] n = m ≡ n
LeadsIn g m (h ∷ hs) n = (h.name ≡ m) × ((next : ℕ) × NamesByField g h next × LeadsIn g next hs n)

-- a way of the graph, from a root to the object of a name
abbrev pub IsWayIn : Graph → RootCounts → List Holder → ℕ → Type 0
IsWayIn g counts [] n = ⊥
IsWayIn g counts (h ∷ hs) n = (m : ℕ) × NamesByRoot g counts m h × LeadsIn g m hs n

-- each way is one of the graph, and for each one of the graph there is one of as many entries
pub record WaysShow (g : Graph) (c : CoreState) : Type 0 where
  pub each : (hs : List Holder) (n : ℕ) → IsWay c hs n → IsWayIn g (root_counts_of c.config) hs n
  pub back : (hs : List Holder) (n : ℕ) → IsWayIn g (root_counts_of c.config) hs n
      → (ks : List Holder) × (length ks ≡ length hs) × IsWay c ks n
