-- The addresses at which an object with weak slots starts.
use Rattle.std.specs.Prelude.{◌≡◌, ℕ, zero, suc, ◌*◌, ◌/◌, ◌<◌, ◌≤◌, Bool, true, false, List, length, Option, Some, None, slice_set}
use Rattle.bit_sets.specs.Bits.{has}
use Rattle.heap_model.specs.Heap.{Stored}
use Rattle.regions.specs.Table.{Table, object_at}

-- an object with weak slots starts at the address
pub record HasWeaks (t : Table) (a : ℕ) : Type 0 where
  pub object : Stored
  pub is : object_at t a ≡ Some object
  pub some : 0 < length object.weaks

-- the lowest address from `from` on at which such an object starts; no answer where none does
abbrev pub IsNextWithWeaks : Table → ℕ → Option ℕ → Type 0
IsNextWithWeaks t from None = (a : ℕ) → from ≤ a → HasWeaks t a → ⊥
IsNextWithWeaks t from (Some x) = (from ≤ x) × HasWeaks t x × ((a : ℕ) → from ≤ a → a < x → HasWeaks t a → ⊥)

-- a flag for each address, how many words a region has, and whether an object of pairs was made
pub record Starts : Type 0 where
  pub region_words : ℕ
  pub flags : List Bool
  pub pairs : Bool

-- the flags tell where such an object starts
pub record AreStarts (t : Table) (flags : List Bool) : Type 0 where
  pub each : (a : ℕ) → HasWeaks t a → has flags a ≡ true
  pub only : (a : ℕ) → has flags a ≡ true → HasWeaks t a

-- the starts once an object with so many weak slots starts at a
abbrev pub start_added : Starts → ℕ → ℕ → Starts
start_added starts a zero = starts
start_added starts a (suc n) = record starts { flags = slice_set starts.flags a true }

-- the starts once an object with so many weak slots is gone from a
abbrev pub forgotten : Starts → ℕ → ℕ → Starts
forgotten starts a zero = starts
forgotten starts a (suc n) = record starts { flags = slice_set starts.flags a false }

-- the starts once an object of pairs is made
abbrev pub with_pairs : Starts → Starts
with_pairs starts = record starts { pairs = true }

-- whole regions have flags, and each region in which an address is flagged is one of these
pub record AreRegions (region_words : ℕ) (regions flags : List Bool) : Type 0 where
  pub positive : 0 < region_words
  pub count : length flags ≡ length regions * region_words
  pub each : (a : ℕ) → has flags a ≡ true → has regions (a / region_words) ≡ true
