-- Pairs while marking runs: what is held for a marked key is followed.
use Rattle.std.specs.Prelude.{◌≡◌, ℕ, Bool, true, List, Option, Some, None}
use Rattle.heap_model.specs.Graph.{IsPair}
use Rattle.regions.specs.Table.{Table, weaks_at, held_at}
use Rattle.mark_bitmap.specs.Marks.{is_marked}
use Rattle.mark_bitmap.specs.Tops.{below_next}
use Rattle.marker.specs.declared.marker.Marker.{Marker}

-- a key leads to a marked object
abbrev pub IsMarkedKey : List Bool → Option ℕ → Type 0
IsMarkedKey marks None = ⊥
IsMarkedKey marks (Some k) = is_marked marks k ≡ true

-- what the object at an address holds in a slot, for a key that was marked, is marked now, if it was there when marking began
abbrev pub FollowsSlot : Table → Marker → Marker → ℕ → ℕ → Type 0
FollowsSlot t m m' a slot = (k b : ℕ) → IsPair (weaks_at t a) (held_at t a) slot k b → is_marked m.bitmaps.next k ≡ true
    → below_next t m.tams b ≡ true → is_marked m'.bitmaps.next b ≡ true

-- the same of each of its slots
abbrev pub FollowsHeld : Table → Marker → Marker → ℕ → Type 0
FollowsHeld t m m' a = (slot : ℕ) → FollowsSlot t m m' a slot

-- the same of each object that was marked
abbrev pub FollowsPairs : Table → Marker → Marker → Type 0
FollowsPairs t m m' = (a : ℕ) → is_marked m.bitmaps.next a ≡ true → FollowsHeld t m m' a

-- nothing is left that pairs lead to: what a marked object holds for a marked key is marked, if it was there when marking began
abbrev pub HasFollowedPairs : Table → Marker → Type 0
HasFollowedPairs t m = FollowsPairs t m m
