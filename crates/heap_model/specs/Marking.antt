-- Marking from a snapshot: the graph as it was when marking began. What was reachable then is marked in the end,
-- whatever mutators do meanwhile, since the old value of each pointer that they overwrite is logged.
use Rattle.std.specs.Prelude.{◌≡◌, ℕ, ◌<◌, ◌≤◌, ◌⊎◌, ◌↔◌, Bool, true, false, List, [], Option, Some, None, Contains, if◌then◌else◌}
use Rattle.heap_model.specs.Graph.{Graph, IsReachable, IsPair, next_name}
use Rattle.heap_model.specs.Heap.{Heap, Stored, Points, Holds, IsHeld, IsRoot}

-- What marking knows of each address. An object is grey when it is marked and not scanned yet
pub record Marking : Type 0 where
  -- below its region's top at mark start: what is there was made before marking began
  pub old : ℕ → Bool
  pub marked : ℕ → Bool
  pub scanned : ℕ → Bool
  -- how many pointers of the object at an address are done while it isn't scanned: its first ones, whose targets are marked
  pub done : ℕ → ℕ
  -- what roots named when marking began, and old values of overwritten pointers, which marking has not taken yet
  pub logged : List ℕ

-- a pointer of the object at a that isn't done holds b
pub record LeadsOn (h : Heap) (m : Marking) (a b : ℕ) : Type 0 where
  pub points : Points h a b
  pub left : m.done a ≤ points.field

-- present pointers, none of which is done, lead to the address from a marked or logged object, by objects that are old and unscanned; and
-- so do held slots of such an object whose key is such a one too, scanned or not
pub data Pending (h : Heap) (m : Marking) : ℕ → Type 0 where
  FromMarked : (a : ℕ) → m.marked a ≡ true → Pending h m a
  FromLogged : (a : ℕ) → Contains m.logged a → Pending h m a
  Through : (a b : ℕ) → Pending h m a → m.old a ≡ true → m.scanned a ≡ false → LeadsOn h m a b → Pending h m b
  ThroughHeld : (a k b : ℕ) → Pending h m a → Pending h m k → m.old a ≡ true → m.old k ≡ true → m.old b ≡ true → Holds h a k b
      → Pending h m b

-- a kept object of this name is marked, or will be
pub record WillBeMarked (h : Heap) (m : Marking) (n : ℕ) : Type 0 where
  pub address : ℕ
  pub object : Stored
  pub at : h.kept address ≡ Some object
  pub named : object.name ≡ n
  pub why : (m.marked address ≡ true) ⊎ Pending h m address

-- an old object whose name is to be marked is here
pub record IsOldLive (live : ℕ → Type 0) (h : Heap) (m : Marking) (a : ℕ) : Type 0 where
  pub object : Stored
  pub at : h.kept a ≡ Some object
  pub old : m.old a ≡ true
  pub is_live : live object.name

-- at a is an object whose name is to be marked, or a new one
abbrev pub IsKnownAt : (ℕ → Type 0) → Heap → Marking → ℕ → Type 0
IsKnownAt live h m a = ((x : Stored) × (h.kept a ≡ Some x) × live x.name) ⊎ (m.old a ≡ false)

-- a root word names the address, or a pointer of an object whose name is to be marked, or of a new object, or such an object
-- holds it for such a key
pub data IsFound (live : ℕ → Type 0) (h : Heap) (m : Marking) : ℕ → Type 0 where
  ByRoot : (a : ℕ) → IsRoot h a → IsFound live h m a
  ByLive : (a b : ℕ) (p : Points h a b) → live p.object.name → IsFound live h m b
  ByNew : (a b : ℕ) → Points h a b → m.old a ≡ false → IsFound live h m b
  ByHeld : (a k b : ℕ) → IsKnownAt live h m a → IsKnownAt live h m k → Holds h a k b → IsFound live h m b

-- While marking runs, with the names that are to be marked: each of these is below the limit, and is marked or
-- will be; what is marked or logged is such an object; an old object that is found is one; and old objects are
-- named below the limit, new ones from there on
pub record MarkingInvariant (live : ℕ → Type 0) (limit : ℕ) (h : Heap) (m : Marking) : Type 0 where
  pub below : (n : ℕ) → live n → n < limit
  pub all : (n : ℕ) → live n → WillBeMarked h m n
  pub marked : (a : ℕ) → m.marked a ≡ true → IsOldLive live h m a
  pub logged : (a : ℕ) → Contains m.logged a → IsOldLive live h m a
  pub found : (a : ℕ) (x : Stored) → h.kept a ≡ Some x → m.old a ≡ true → IsFound live h m a → live x.name
  pub old_names : (a : ℕ) (x : Stored) → h.kept a ≡ Some x → m.old a ≡ true → x.name < limit
  pub new_names : (a : ℕ) (x : Stored) → h.kept a ≡ Some x → m.old a ≡ false → limit ≤ x.name

-- the snapshot-at-the-beginning invariant: to be marked is what is reachable in the snapshot
abbrev pub KeepsSnapshot : Graph → Heap → Marking → Type 0
KeepsSnapshot s h m = MarkingInvariant (IsReachable s) (next_name s) h m

-- marking has just begun: all objects are old, what roots name is marked or logged, what is marked or logged is named by a root, nothing is
-- scanned, and no pointer is done
pub record Begins (h : Heap) (m : Marking) : Type 0 where
  pub old : (a : ℕ) (x : Stored) → h.kept a ≡ Some x → m.old a ≡ true
  pub roots : (a : ℕ) → IsRoot h a → (m.marked a ≡ true) ⊎ Contains m.logged a
  pub marked : (a : ℕ) → m.marked a ≡ true → IsRoot h a
  pub logged : (a : ℕ) → Contains m.logged a → IsRoot h a
  pub scanned : (a : ℕ) → m.scanned a ≡ false
  pub done : (a : ℕ) → m.done a ≡ 0

-- a grey object points to the old address b
pub record IsTarget (h : Heap) (m : Marking) (b : ℕ) : Type 0 where
  pub from : ℕ
  pub marked : m.marked from ≡ true
  pub grey : m.scanned from ≡ false
  pub points : Points h from b
  pub old : m.old b ≡ true

-- a marked object holds the old address b for a marked key
pub record IsHeldTarget (h : Heap) (m : Marking) (b : ℕ) : Type 0 where
  pub from : ℕ
  pub key : ℕ
  pub from_marked : m.marked from ≡ true
  pub key_marked : m.marked key ≡ true
  pub holds : Holds h from key b
  pub old : m.old b ≡ true

-- a part of marking, large or small: logged addresses, old targets of grey objects, and what marked objects hold for marked keys may be
-- marked, logged addresses that are marked may go; the pointers that weren't done of what is newly scanned, and those that are newly done,
-- lead to marked objects alone, where they lead to old ones
pub record MarksMore (h : Heap) (m m' : Marking) : Type 0 where
  pub old : (a : ℕ) → m'.old a ≡ m.old a
  pub marked : (a : ℕ) → m.marked a ≡ true → m'.marked a ≡ true
  pub newly_marked : (a : ℕ) → m'.marked a ≡ true → (m.marked a ≡ true) ⊎ Contains m.logged a ⊎ IsTarget h m a ⊎ IsHeldTarget h m a
  pub newly_scanned : (a : ℕ) → m'.scanned a ≡ true → (m.scanned a ≡ true)
      ⊎ ((b : ℕ) → LeadsOn h m a b → m.old b ≡ true → m'.marked b ≡ true)
  pub newly_done : (a b : ℕ) (p : LeadsOn h m a b) → p.points.field < m'.done a → m.old b ≡ true → m'.marked b ≡ true
  pub taken : (a : ℕ) → Contains m.logged a → (m'.marked a ≡ true) ⊎ Contains m'.logged a
  pub logged : (a : ℕ) → Contains m'.logged a → Contains m.logged a

-- the deletion barrier: the old value of a pointer is logged where it is an old address, and nothing else changed
pub record IsSaved (m m' : Marking) (w : Option ℕ) : Type 0 where
  pub old : (a : ℕ) → m'.old a ≡ m.old a
  pub marked : (a : ℕ) → m'.marked a ≡ m.marked a
  pub scanned : (a : ℕ) → m'.scanned a ≡ m.scanned a
  pub done : (a : ℕ) → m'.done a ≡ m.done a
  pub kept : (a : ℕ) → Contains m.logged a → Contains m'.logged a
  pub saved : (a : ℕ) → w ≡ Some a → m.old a ≡ true → Contains m'.logged a
  pub only : (a : ℕ) → Contains m'.logged a → Contains m.logged a ⊎ ((w ≡ Some a) × (m.old a ≡ true))

-- each address is old, marked, scanned or logged in both or in neither, and as many pointers are done
pub record SameMarking (m m' : Marking) : Type 0 where
  pub old : (a : ℕ) → m'.old a ≡ m.old a
  pub marked : (a : ℕ) → m'.marked a ≡ m.marked a
  pub scanned : (a : ℕ) → m'.scanned a ≡ m.scanned a
  pub done : (a : ℕ) → m'.done a ≡ m.done a
  pub logged : (a : ℕ) → Contains m.logged a ↔ Contains m'.logged a

-- an object's pairs before and after, whose keys are kept: what it holds no more is marked or logged where it is old, and what it holds
-- then it held for that key, or a mutator can store
pub record PairsSet (h : Heap) (m : Marking) (x y : Stored) : Type 0 where
  pub went : (i k b : ℕ) (z : Stored) → h.kept k ≡ Some z → IsPair x.weaks x.held i k b → IsPair y.weaks y.held i k b
      ⊎ (m.old b ≡ true → (m.marked b ≡ true) ⊎ Contains m.logged b)
  pub came : (i k b : ℕ) (z : Stored) → h.kept k ≡ Some z → IsPair y.weaks y.held i k b → IsPair x.weaks x.held i k b ⊎ IsHeld h (Some b)

-- nothing is left to mark
pub record IsDone (h : Heap) (m : Marking) : Type 0 where
  pub grey : (a : ℕ) → m.marked a ≡ true → m.scanned a ≡ true
  pub logged : m.logged ≡ []
  pub held : (a k b : ℕ) → m.marked a ≡ true → m.marked k ≡ true → Holds h a k b → m.old b ≡ true → m.marked b ≡ true

-- what is kept once marking is over: what is marked or new
abbrev pub kept_after : Heap → Marking → ℕ → Option Stored
kept_after h m a = if m.marked a then h.kept a else (if m.old a then None else h.kept a)

-- a marked object has this name
pub record IsMarkedName (h : Heap) (m : Marking) (n : ℕ) : Type 0 where
  pub address : ℕ
  pub object : Stored
  pub at : h.kept address ≡ Some object
  pub named : object.name ≡ n
  pub marked : m.marked address ≡ true

-- marking is exact: the marked names are those that are reachable in the snapshot
abbrev pub MarksExactly : Graph → Heap → Marking → Type 0
MarksExactly s h m = (n : ℕ) → IsReachable s n ↔ IsMarkedName h m n
