-- Roots: what they name, and which of them name marked objects.
use Rattle.std.specs.Prelude.{◌≡◌, ℕ, ◌<◌, ◌≤◌, Bool, true, List, Option, Some, Contains, slice_get}
use Rattle.mark_bitmap.specs.Marks.{is_marked}

-- one of the first n words holds the address
pub record IsInFirst (words : List (Option ℕ)) (n a : ℕ) : Type 0 where
  pub place : ℕ
  pub front : place < n
  pub is : slice_get words place ≡ Some (Some a)

-- one of the words from one on up to another one, which is not one of them, holds the address
pub record IsInSpan (words : List (Option ℕ)) (from to a : ℕ) : Type 0 where
  pub place : ℕ
  pub from_on : from ≤ place
  pub before : place < to
  pub is : slice_get words place ≡ Some (Some a)

-- the addresses are those that the first n words hold
pub record AreHeldBy (words : List (Option ℕ)) (n : ℕ) (addresses : List ℕ) : Type 0 where
  pub each : (a : ℕ) → IsInFirst words n a → Contains addresses a
  pub only : (a : ℕ) → Contains addresses a → IsInFirst words n a

-- each address that stands in a place from one on is below a number
abbrev pub AreNamedBelow : List (Option ℕ) → ℕ → ℕ → Type 0
AreNamedBelow words from count = (place address : ℕ) → from ≤ place → slice_get words place ≡ Some (Some address) → address < count

-- a place names a marked object
pub record NamesMarked (marks : List Bool) (words : List (Option ℕ)) (place : ℕ) : Type 0 where
  pub address : ℕ
  pub is : slice_get words place ≡ Some (Some address)
  pub marked : is_marked marks address ≡ true

-- the first place from one on that doesn't name a marked object. None after the last place does
pub record IsFirstUnmarked (marks : List Bool) (words : List (Option ℕ)) (from place : ℕ) : Type 0 where
  pub from_on : from ≤ place
  pub marked_before : (i : ℕ) → from ≤ i → i < place → NamesMarked marks words i
  pub ends : NamesMarked marks words place → ⊥
