-- Weak slots: fields that marking doesn't follow. While marking runs, a name that a mutator reads from a weak slot is
-- touched: it counts as a root of the snapshot from then on. When marking ends, each slot that holds a name of the
-- snapshot which is reachable in it neither from a root nor from a touched name becomes nil, and so does what it held.
use Rattle.std.specs.Prelude.{◌≡◌, ℕ, ◌<◌, ◌≤◌, ◌⊎◌, ⊤, Bool, true, ◌∷◌, Option, Some, None, map, slice_get, nat_lt}
use Rattle.std.specs.Prelude.{if◌then◌else◌}
use Rattle.std.specs.List.{AllZip}
use Rattle.heap_model.specs.Graph.{Graph, Object, object_named, next_name, IsPair, HasPair, held_by, IsReachable, IsSound}
use Rattle.heap_model.specs.Heap.{Heap, Stored}
use Rattle.heap_model.specs.Marking.{Marking, kept_after}

-- the snapshot once a weak slot's value was read: a name of the snapshot is a root of it from then on. So reachable in
-- a snapshot is from here on reachable from a root or a touched name
abbrev pub touched : Graph → Option ℕ → Graph
touched s None = s
touched s (Some n) = if nat_lt n (next_name s) then record s { roots = Some n ∷ s.roots } else s

-- reachable in the snapshot from a root or a touched name, or newer
abbrev pub IsKnown : Graph → ℕ → Type 0
IsKnown s n = IsReachable s n ⊎ (next_name s ≤ n)

-- an object's pairs before and after: what it holds no more is known, and what it holds then it held for that key, or is known
pub record PairsChange (s : Graph) (o p : Object) : Type 0 where
  pub went : (i k b : ℕ) → IsPair o.weaks o.held i k b → IsPair p.weaks p.held i k b ⊎ IsKnown s b
  pub came : (i k b : ℕ) → IsPair p.weaks p.held i k b → IsPair o.weaks o.held i k b ⊎ IsKnown s b

-- of each pair that came or went since marking began, what is held is known
pub record KeepsPairs (s g : Graph) : Type 0 where
  pub went : (n i k b : ℕ) → HasPair s n i k b → HasPair g n i k b ⊎ IsKnown s b
  pub came : (n i k b : ℕ) → HasPair g n i k b → HasPair s n i k b ⊎ IsKnown s b

-- each object that was there when marking began is reachable in the snapshot, or has the pointers that it had then; and pairs
-- came and went by the rule
pub record KeepsUnreached (s g : Graph) : Type 0 where
  pub sound : IsSound s
  pub each : (n : ℕ) (o : Object) → object_named g n ≡ Some o → n < next_name s
      → IsReachable s n ⊎ ((p : Object) × (object_named s n ≡ Some p) × (o.pointers ≡ p.pointers))
  pub pairs : KeepsPairs s g

-- a weak slot's value at the end of marking, before and after
abbrev pub IsClearedSlot : Graph → Option ℕ → Option ℕ → Type 0
IsClearedSlot s None None = ⊤
IsClearedSlot s None (Some k) = ⊥
IsClearedSlot s (Some n) None = (n < next_name s) × (IsReachable s n → ⊥)
IsClearedSlot s (Some n) (Some k) = (k ≡ n) × (IsReachable s n ⊎ (next_name s ≤ n))

pub record ClearsObject (s : Graph) (o o' : Object) : Type 0 where
  pub pointers : o'.pointers ≡ o.pointers
  pub weaks : AllZip (IsClearedSlot s) o.weaks o'.weaks
  pub held : o'.held ≡ held_by o'.weaks o.held
  pub values : o'.values ≡ o.values

-- in every object the weak slots that hold a name of the snapshot which isn't reachable in it become nil, with what they held, and
-- nothing else changes
pub record Clears (s g g' : Graph) : Type 0 where
  pub room : g'.room ≡ g.room
  pub first_name : g'.first_name ≡ g.first_name
  pub places : g'.places ≡ g.places
  pub roots : g'.roots ≡ g.roots
  pub objects : AllZip (ClearsObject s) g.objects g'.objects

-- flags that hold what roots name, with each name what its pointers name, and nothing that isn't reachable
pub record AreReached (s : Graph) (flag : ℕ → Bool) : Type 0 where
  pub roots : (j n : ℕ) → slice_get s.roots j ≡ Some (Some n) → flag n ≡ true
  pub pointers : (m n i : ℕ) (o : Object) → flag m ≡ true → object_named s m ≡ Some o → slice_get o.pointers i ≡ Some (Some n)
      → flag n ≡ true
  pub held : (m k n i : ℕ) → flag m ≡ true → flag k ≡ true → HasPair s m i k n → flag n ≡ true
  pub only : (n : ℕ) → flag n ≡ true → IsReachable s n

-- the clearing by such flags, for names below a limit
abbrev pub cleared_slot : (ℕ → Bool) → ℕ → Option ℕ → Option ℕ
cleared_slot flag limit None = None
cleared_slot flag limit (Some n) = if nat_lt n limit then (if flag n then Some n else None) else Some n

abbrev pub cleared_names : (ℕ → Bool) → ℕ → Object → Object
cleared_names flag limit o = record o {
  weaks = map (cleared_slot flag limit) o.weaks;
  held = held_by (map (cleared_slot flag limit) o.weaks) o.held;
}

abbrev pub cleared_graph : (ℕ → Bool) → ℕ → Graph → Graph
cleared_graph flag limit g = record g { objects = map (cleared_names flag limit) g.objects }

-- the same in the heap: a weak slot becomes nil where its target is old and unmarked
abbrev pub cleared_word : Marking → Option ℕ → Option ℕ
cleared_word m None = None
cleared_word m (Some a) = if m.old a then (if m.marked a then Some a else None) else Some a

abbrev pub cleared : Marking → Stored → Stored
cleared m x = record x { weaks = map (cleared_word m) x.weaks; held = held_by (map (cleared_word m) x.weaks) x.held }

abbrev pub cleared_object : Marking → Option Stored → Option Stored
cleared_object m None = None
cleared_object m (Some x) = Some (cleared m x)

-- what is kept once marking is over, its weak slots cleared
abbrev pub cleared_after : Heap → Marking → ℕ → Option Stored
cleared_after h m a = cleared_object m (kept_after h m a)
