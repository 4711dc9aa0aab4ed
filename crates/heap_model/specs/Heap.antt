-- A heap as the objects that it keeps, by address, and its root words; and what it shows of a graph.
use Rattle.std.specs.Prelude.{◌≡◌, ℕ, ◌-◌, List, ◌++◌, length, Option, Some, None, slice_set, slice_get, nat_lt, if◌then◌else◌, ⊤, ◌⊎◌}
use Rattle.std.specs.List.{AllZip}
use Rattle.heap_model.specs.Graph.{Graph, Object, object_named, IsPair, held_by}

-- an object as the heap stores it: its pointers, weak slots and held slots are nil or addresses
pub record Stored : Type 0 where
  pub name : ℕ
  pub pointers : List (Option ℕ)
  pub weaks : List (Option ℕ)
  pub held : List (Option ℕ)
  pub values : List ℕ

-- every field that holds an address, in address order. Marking follows the pointers, and what is held for a marked key; all that
-- moves objects, or remembers where a region is named from, goes by the fields
abbrev pub fields : Stored → List (Option ℕ)
fields x = x.pointers ++ (x.weaks ++ x.held)

-- the object with another value in a field: in a pointer, in a weak slot, which are after the pointers, or in a held slot
abbrev pub with_field : Stored → ℕ → Option ℕ → Stored
with_field x i v =
    if nat_lt i (length x.pointers) then record x { pointers = slice_set x.pointers i v }
    else if nat_lt (i - length x.pointers) (length x.weaks) then record x { weaks = slice_set x.weaks (i - length x.pointers) v }
    else record x { held = slice_set x.held (i - length x.pointers - length x.weaks) v }

-- the kept object that starts at an address, and what each root place holds: nil or an address
pub record Heap : Type 0 where
  pub kept : ℕ → Option Stored
  pub roots : List (Option ℕ)

-- the word is nil where the value is nil, else it is where a kept object of that name is
abbrev pub IsShown : Heap → Option ℕ → Option ℕ → Type 0
IsShown h None None = ⊤
IsShown h (Some a) (Some n) = (x : Stored) × (h.kept a ≡ Some x) × (x.name ≡ n)
IsShown h _ _ = ⊥

-- the stored object has the contents that the graph gives its name, and each held slot that isn't nil has a key
pub record IsObjectShown (g : Graph) (h : Heap) (x : Stored) : Type 0 where
  pub object : Object
  pub named : object_named g x.name ≡ Some object
  pub pointers : AllZip (IsShown h) x.pointers object.pointers
  pub weaks : AllZip (IsShown h) x.weaks object.weaks
  pub held : AllZip (IsShown h) x.held object.held
  pub keyed : held_by x.weaks x.held ≡ x.held
  pub values : x.values ≡ object.values

-- the heap shows the graph: roots agree place by place, kept objects have distinct names, and each has the
-- graph's contents
pub record Shows (g : Graph) (h : Heap) : Type 0 where
  pub roots : AllZip (IsShown h) h.roots g.roots
  pub distinct : (a b : ℕ) (x y : Stored) → h.kept a ≡ Some x → h.kept b ≡ Some y → x.name ≡ y.name → a ≡ b
  pub objects : (a : ℕ) (x : Stored) → h.kept a ≡ Some x → IsObjectShown g h x

-- each root word and each field is nil or where a kept object starts
pub record IsClosed (h : Heap) : Type 0 where
  pub root : (j a : ℕ) → slice_get h.roots j ≡ Some (Some a) → (x : Stored) × (h.kept a ≡ Some x)
  pub field : (b i a : ℕ) (y : Stored) → h.kept b ≡ Some y → slice_get (fields y) i ≡ Some (Some a) → (x : Stored) × (h.kept a ≡ Some x)

-- a root place holds a
pub record IsRoot (h : Heap) (a : ℕ) : Type 0 where
  pub place : ℕ
  pub is : slice_get h.roots place ≡ Some (Some a)

-- a pointer of the object at a holds b
pub record Points (h : Heap) (a b : ℕ) : Type 0 where
  pub object : Stored
  pub at : h.kept a ≡ Some object
  pub field : ℕ
  pub is : slice_get object.pointers field ≡ Some (Some b)

-- the object at a holds b for the key at k, where an object is kept
pub record Holds (h : Heap) (a k b : ℕ) : Type 0 where
  pub object : Stored
  pub at : h.kept a ≡ Some object
  pub slot : ℕ
  pub is : IsPair object.weaks object.held slot k b
  pub key : Stored
  pub key_at : h.kept k ≡ Some key

-- a field of the object at a holds b
pub record HasField (h : Heap) (a b : ℕ) : Type 0 where
  pub object : Stored
  pub at : h.kept a ≡ Some object
  pub field : ℕ
  pub is : slice_get (fields object) field ≡ Some (Some b)

-- what a mutator can store: nil, what a root place holds, what a pointer of such an object holds, or what such an object holds for such
-- a key
abbrev pub IsHeld : Heap → Option ℕ → Type 0
IsHeld h None = ⊤
IsHeld h (Some a) = IsRoot h a ⊎ ((b : ℕ) × IsRoot h b × Points h b a) ⊎ ((b : ℕ) × (k : ℕ) × IsRoot h b × IsRoot h k × Holds h b k a)

-- a root place has another word, and nothing else changed
pub record RootSet (h h' : Heap) (place : ℕ) (w : Option ℕ) : Type 0 where
  pub kept : (a : ℕ) → h'.kept a ≡ h.kept a
  pub roots : h'.roots ≡ slice_set h.roots place w

-- the object at d is another one of the same name, and nothing else changed
pub record ObjectSet (h h' : Heap) (d : ℕ) (before after : Stored) : Type 0 where
  pub was : h.kept d ≡ Some before
  pub is : h'.kept d ≡ Some after
  pub name : after.name ≡ before.name
  pub others : (a : ℕ) → (a ≡ d → ⊥) → h'.kept a ≡ h.kept a
  pub roots : h'.roots ≡ h.roots

-- one more object, with nil pointers and nil held slots, which a root place holds, and nothing else changed
pub record ObjectAdded (h h' : Heap) (a : ℕ) (x : Stored) (place : ℕ) : Type 0 where
  pub was : h.kept a ≡ None
  pub is : h'.kept a ≡ Some x
  pub nil : (i b : ℕ) → slice_get x.pointers i ≡ Some (Some b) → ⊥
  pub bare : (i b : ℕ) → slice_get x.held i ≡ Some (Some b) → ⊥
  pub others : (b : ℕ) → (b ≡ a → ⊥) → h'.kept b ≡ h.kept b
  pub roots : h'.roots ≡ slice_set h.roots place (Some a)

-- the same objects at the same addresses, and the same root words
pub record SameHeap (h h' : Heap) : Type 0 where
  pub kept : (a : ℕ) → h'.kept a ≡ h.kept a
  pub roots : h'.roots ≡ h.roots
