-- Copying a set of objects out of their regions, so that the regions can be released. `set` tells the addresses in
-- those regions, `forward` where the objects that were copied are now.
use Rattle.std.specs.Prelude.{◌≡◌, ◌⊎◌, ℕ, Bool, true, false, List, Option, Some, None, slice_get, length, if◌then◌else◌}
use Rattle.std.specs.List.{AllZip}
use Rattle.heap_model.specs.Heap.{Heap, Stored, IsRoot, HasField, fields}
use Rattle.heap_model.specs.Relocation.{IsMoved, Came}

-- an object of the set that a root names, or a field of a kept object outside the set, or a field of an object of
-- the set that is reached
pub data IsReached (set : ℕ → Bool) (h : Heap) : ℕ → Type 0 where
  ByRootWord : (a : ℕ) → IsRoot h a → set a ≡ true → IsReached set h a
  ByOutside : (b a : ℕ) → set b ≡ false → HasField h b a → set a ≡ true → IsReached set h a
  ByInside : (b a : ℕ) → IsReached set h b → HasField h b a → set a ≡ true → IsReached set h a

-- where each object is: in the set where it was forwarded to, else where it was
abbrev pub place_after : (ℕ → Bool) → (ℕ → Option ℕ) → ℕ → Option ℕ
place_after set forward a = if set a then forward a else Some a

-- the word is as it was, or names the new place
abbrev pub IsWord : (ℕ → Option ℕ) → Option ℕ → Option ℕ → Type 0
IsWord place w w' = (w' ≡ w) ⊎ IsMoved place w w'

-- at b is what x became: the same, with as many pointers and weak slots, but that some of its fields name new places
pub record IsPart (place : ℕ → Option ℕ) (now : Heap) (x : Stored) (b : ℕ) : Type 0 where
  pub part : Stored
  pub at : now.kept b ≡ Some part
  pub name : part.name ≡ x.name
  pub values : part.values ≡ x.values
  pub shape : length part.pointers ≡ length x.pointers
  pub slots : length part.weaks ≡ length x.weaks
  pub words : AllZip (IsWord place) (fields x) (fields part)

-- between two turns of the copying, h being the heap at its start: each placed object is at its place; outside
-- the set nothing else is kept; what is not forwarded is untouched; what is forwarded is reached, and is outside
-- the set
pub record IsEvacuating (set : ℕ → Bool) (h : Heap) (forward : ℕ → Option ℕ) (now : Heap) : Type 0 where
  pub roots : AllZip (IsWord (place_after set forward)) h.roots now.roots
  pub objects : (a b : ℕ) (x : Stored) → h.kept a ≡ Some x → place_after set forward a ≡ Some b → IsPart (place_after set forward) now x b
  pub came : (b : ℕ) (y : Stored) → now.kept b ≡ Some y → set b ≡ false → Came (place_after set forward) h b
  pub untouched : (a : ℕ) → set a ≡ true → forward a ≡ None → now.kept a ≡ h.kept a
  pub reached : (a b : ℕ) → set a ≡ true → forward a ≡ Some b → IsReached set h a
  pub out : (a b : ℕ) → set a ≡ true → forward a ≡ Some b → set b ≡ false

-- no word of the list names an address of the set
abbrev pub IsClean : (ℕ → Bool) → List (Option ℕ) → Type 0
IsClean set ws = (i a : ℕ) → slice_get ws i ≡ Some (Some a) → set a ≡ false

-- no root, and no field of an object outside the set, names an address of the set
pub record IsEvacuated (set : ℕ → Bool) (now : Heap) : Type 0 where
  pub roots : IsClean set now.roots
  pub objects : (b : ℕ) (y : Stored) → now.kept b ≡ Some y → set b ≡ false → IsClean set (fields y)

-- the heap once the set's regions are released
abbrev pub released : (ℕ → Bool) → Heap → Heap
released set now = record { kept = λ a. if set a then None else now.kept a; roots = now.roots }

-- one turn: the object at a, not forwarded yet, is copied to b outside the set, where nothing was kept, as it is
pub record Copies (set : ℕ → Bool) (forward forward' : ℕ → Option ℕ) (now now' : Heap) (a b : ℕ) (x : Stored) : Type 0 where
  pub inside : set a ≡ true
  pub outside : set b ≡ false
  pub unforwarded : forward a ≡ None
  pub object : now.kept a ≡ Some x
  pub room : now.kept b ≡ None
  pub forwarded : forward' a ≡ Some b
  pub forward_others : (c : ℕ) → (c ≡ a → ⊥) → forward' c ≡ forward c
  pub copy : now'.kept b ≡ Some x
  pub others : (c : ℕ) → (c ≡ a → ⊥) → (c ≡ b → ⊥) → now'.kept c ≡ now.kept c
  pub roots : now'.roots ≡ now.roots
