-- Which fields lead out of their region, and what it means that they are remembered. A region has so many words, a card
-- so many card words; what is kept, dirty or covered is a function, however a heap keeps it.
use Rattle.std.specs.Prelude.{◌≡◌, ◌≢◌, ◌⊎◌, ℕ, ◌/◌, ◌<◌, ⊤, Bool, true, Option, Some, None, slice_get, slice_set}
use Rattle.heap_model.specs.Heap.{Stored, fields}
pub use Rattle.heap_words.specs.Sizes.{field_word}

-- the card of a field's word
abbrev pub field_card : ℕ → ℕ → ℕ → ℕ
field_card card_words at index = field_word at index / card_words

-- a field of the kept object at an address leads to the target, in another region than the field's word
pub record IsCrossing (words : ℕ) (kept : ℕ → Option Stored) (at index target : ℕ) : Type 0 where
  pub object : Stored
  pub kept_is : kept at ≡ Some object
  pub field_is : slice_get (fields object) index ≡ Some (Some target)
  pub leaves : target / words ≢ field_word at index / words

-- the card of each crossing field is dirty, or the target's region covers it
pub record Remembers (words : ℕ) (kept : ℕ → Option Stored) (card_words : ℕ) (dirty : ℕ → Bool) (covered : ℕ → ℕ → Bool) : Type 0 where
  pub each : (at index target : ℕ) → IsCrossing words kept at index target
      → (dirty (field_card card_words at index) ≡ true) ⊎ (covered (target / words) (field_card card_words at index) ≡ true)

-- a crossing field in the card leads into the region
pub record LeadsInto (words : ℕ) (kept : ℕ → Option Stored) (card_words card region : ℕ) : Type 0 where
  pub at : ℕ
  pub index : ℕ
  pub target : ℕ
  pub crossing : IsCrossing words kept at index target
  pub in_card : field_card card_words at index ≡ card
  pub into : target / words ≡ region

-- each region that a crossing field in the card leads into covers the card
pub record IsCovered (words : ℕ) (kept : ℕ → Option Stored) (card_words card : ℕ) (covered : ℕ → ℕ → Bool) : Type 0 where
  pub each : (region : ℕ) → LeadsInto words kept card_words card region → covered region card ≡ true

-- what was covered still is, and what is newly covered are cards of the card's own region, in regions that crossing
-- fields of the card lead into
pub record Gains (words : ℕ) (kept : ℕ → Option Stored) (card_words cards_per_region card : ℕ) (old new : ℕ → ℕ → Bool) : Type 0 where
  pub stays : (region c : ℕ) → old region c ≡ true → new region c ≡ true
  pub only : (region c : ℕ) → new region c ≡ true
      → (old region c ≡ true) ⊎ (LeadsInto words kept card_words card region × (c / cards_per_region ≡ card / cards_per_region))

-- each field of a kept object is nil or leads into one of so many regions
pub record LeadsInside (words regions : ℕ) (kept : ℕ → Option Stored) : Type 0 where
  pub each : (at index target : ℕ) (object : Stored) → kept at ≡ Some object
      → slice_get (fields object) index ≡ Some (Some target) → target / words < regions

-- what is kept now was kept, with the same fields
abbrev pub KeepsFields : (ℕ → Option Stored) → (ℕ → Option Stored) → Type 0
KeepsFields old new =
    (at : ℕ) (object : Stored) → new at ≡ Some object → (before : Stored) × (old at ≡ Some before) × (fields object ≡ fields before)

-- what is kept now was kept, and each of its fields is nil or what it was
abbrev pub ClearsFields : (ℕ → Option Stored) → (ℕ → Option Stored) → Type 0
ClearsFields old new = (at : ℕ) (object : Stored) → new at ≡ Some object → (before : Stored) × (old at ≡ Some before)
    × ((index target : ℕ) → slice_get (fields object) index ≡ Some (Some target) → slice_get (fields before) index ≡ Some (Some target))

-- a value in a field is nil, or leads into the field's own region, or the field's card is dirty
abbrev pub IsNoted : ℕ → ℕ → (ℕ → Bool) → ℕ → Option ℕ → Type 0
IsNoted words card_words dirty word None = ⊤
IsNoted words card_words dirty word (Some target) = (target / words ≡ word / words) ⊎ (dirty (word / card_words) ≡ true)

-- one field of the kept object at an address has another value, and the other fields and objects stay
pub record SetsField (old new : ℕ → Option Stored) (at index : ℕ) (value : Option ℕ) : Type 0 where
  pub before : Stored
  pub after : Stored
  pub was : old at ≡ Some before
  pub is : new at ≡ Some after
  pub field : fields after ≡ slice_set (fields before) index value
  pub others : (a : ℕ) → a ≢ at → new a ≡ old a

-- one more object is kept, with nil fields
pub record AddsNil (old new : ℕ → Option Stored) (at : ℕ) : Type 0 where
  pub object : Stored
  pub is : new at ≡ Some object
  pub nil : (index target : ℕ) → slice_get (fields object) index ≢ Some (Some target)
  pub others : (a : ℕ) → a ≢ at → new a ≡ old a

-- no field of a kept object leads from another region into this one
abbrev pub NoneLeadsInto : ℕ → (ℕ → Option Stored) → ℕ → Type 0
NoneLeadsInto words kept region = (at index target : ℕ) → IsCrossing words kept at index target → target / words ≢ region
