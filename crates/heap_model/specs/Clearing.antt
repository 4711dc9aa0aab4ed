-- Weak slots that are still to be cleared. When marking ends, the slots whose targets aren't kept any more needn't become nil at once: as
-- long as nothing is kept where such a slot leads, it shows nil.
use Rattle.std.specs.Prelude.{◌≡◌, ℕ, ◌<◌, ◌⊎◌, ⊤, List, Option, Some, None, map, slice_get}
use Rattle.std.specs.List.{AllZip}
use Rattle.heap_model.specs.Graph.{Graph, Object, object_named, held_by}
use Rattle.heap_model.specs.Heap.{Heap, Stored, Holds, IsShown}

-- the word of a weak slot: nil, or where nothing is kept, if the value is nil; else it is where a kept object of that name is
abbrev pub IsWeakShown : Heap → Option ℕ → Option ℕ → Type 0
IsWeakShown h None None = ⊤
IsWeakShown h (Some a) None = h.kept a ≡ None
IsWeakShown h (Some a) (Some n) = (x : Stored) × (h.kept a ≡ Some x) × (x.name ≡ n)
IsWeakShown h _ _ = ⊥

-- what a word of a weak slot leads to: nil where nothing is kept at its target
abbrev pub where_kept : Option Stored → ℕ → Option ℕ
where_kept None a = None
where_kept (Some x) a = Some a

abbrev pub kept_word : (ℕ → Option Stored) → Option ℕ → Option ℕ
kept_word kept None = None
kept_word kept (Some a) = where_kept (kept a) a

-- what the held slots show: nil where the key is nil, or nothing is kept there
abbrev pub kept_held : (ℕ → Option Stored) → Stored → List (Option ℕ)
kept_held kept x = held_by (map (kept_word kept) x.weaks) x.held

-- the stored object has the contents that the graph gives its name, once its weak slots are cleared, and with them what they held; and
-- each held slot that isn't nil has a key
pub record WillShowObject (g : Graph) (h : Heap) (x : Stored) : Type 0 where
  pub object : Object
  pub named : object_named g x.name ≡ Some object
  pub pointers : AllZip (IsShown h) x.pointers object.pointers
  pub weaks : AllZip (IsWeakShown h) x.weaks object.weaks
  pub held : AllZip (IsShown h) (kept_held h.kept x) object.held
  pub keyed : held_by x.weaks x.held ≡ x.held
  pub values : x.values ≡ object.values

-- the heap shows the graph once its weak slots are cleared: roots agree place by place, kept objects have distinct names, and each
-- has the graph's contents then
pub record WillShow (g : Graph) (h : Heap) : Type 0 where
  pub roots : AllZip (IsShown h) h.roots g.roots
  pub distinct : (a b : ℕ) (x y : Stored) → h.kept a ≡ Some x → h.kept b ≡ Some y → x.name ≡ y.name → a ≡ b
  pub objects : (a : ℕ) (x : Stored) → h.kept a ≡ Some x → WillShowObject g h x

-- exactly one kept object has the name, and it has the graph's contents
pub record StandsOnce (g : Graph) (h : Heap) (n : ℕ) : Type 0 where
  pub address : ℕ
  pub object : Stored
  pub at : h.kept address ≡ Some object
  pub named : object.name ≡ n
  pub only : (b : ℕ) (y : Stored) → h.kept b ≡ Some y → y.name ≡ n → b ≡ address
  pub contents : WillShowObject g h object

-- each root word and each pointer of a kept object is nil or where a kept object starts, and so is what it holds for a key that is kept
pub record CanBeFollowed (h : Heap) : Type 0 where
  pub root : (j a : ℕ) → slice_get h.roots j ≡ Some (Some a) → (x : Stored) × (h.kept a ≡ Some x)
  pub pointer : (b i a : ℕ) (y : Stored) → h.kept b ≡ Some y → slice_get y.pointers i ≡ Some (Some a) → (x : Stored) × (h.kept a ≡ Some x)
  pub held : (a k b : ℕ) → Holds h a k b → (x : Stored) × (h.kept b ≡ Some x)

-- a weak slot of the object at a holds b
pub record HasWeak (h : Heap) (a b : ℕ) : Type 0 where
  pub object : Stored
  pub at : h.kept a ≡ Some object
  pub slot : ℕ
  pub is : slice_get object.weaks slot ≡ Some (Some b)

-- an object is kept at the address
pub record KeepsAt (h : Heap) (a : ℕ) : Type 0 where
  pub object : Stored
  pub at : h.kept a ≡ Some object

-- clearing has passed the address: it goes on from a place, or is over
abbrev pub IsPassed : Option ℕ → ℕ → Type 0
IsPassed None a = ⊤
IsPassed (Some place) a = a < place

-- clearing has come so far: the weak slots of the objects that it has passed lead to kept objects
abbrev pub IsClearedTo : Option ℕ → Heap → Type 0
IsClearedTo place h = (a b : ℕ) → IsPassed place a → HasWeak h a b → KeepsAt h b

abbrev pub with_kept_weaks : (ℕ → Option Stored) → Stored → Stored
with_kept_weaks kept x = record x { weaks = map (kept_word kept) x.weaks; held = kept_held kept x }

-- in some kept objects the weak slots whose targets aren't kept are nil now, and what they held, and nothing else changed
pub record ClearsWeaks (h h' : Heap) : Type 0 where
  pub roots : h'.roots ≡ h.roots
  pub each : (a : ℕ) → (h'.kept a ≡ h.kept a)
      ⊎ ((x : Stored) × (h.kept a ≡ Some x) × (h'.kept a ≡ Some (with_kept_weaks h.kept x)))
