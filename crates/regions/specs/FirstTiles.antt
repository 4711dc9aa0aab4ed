-- The entries that lead to the tile of a card's first word.
use Rattle.std.specs.Prelude.{◌≡◌, ℕ, ◌+◌, ◌*◌, ◌/◌, ◌^◌, ◌<◌, ◌≤◌, ◌⊎◌, List, length, slice_index, IsSome, if◌then◌else◌}
use Rattle.regions.specs.Table.{Table, tile_in}
use Rattle.regions.specs.Walks.{IsHolder}
use Rattle.bit_sets.specs.Bits.{is_between}

-- an entry for each card, and how many words a card has
pub record Entries : Type 0 where
  pub card_words : ℕ
  pub starts : List ℕ

-- a tile starts at the entry, not above word w, and in the region where the tile at a starts, which holds w
pub record LeadsTo (t : Table) (entry a w : ℕ) : Type 0 where
  pub start : IsSome (tile_in t entry)
  pub low : entry ≤ w
  pub region : entry / t.words_per_region ≡ a / t.words_per_region

-- the entry of each card whose first word is a tile's leads to it
abbrev pub AreEntries : Table → Entries → Type 0
AreEntries t entries = (a c : ℕ) → IsHolder t a (c * entries.card_words)
    → LeadsTo t (slice_index entries.starts c) a (c * entries.card_words)

-- the entries of as many cards as large: R relates a card's first word, its entry before, and its entry after
pub record AreEntriesPut (R : ℕ → ℕ → ℕ → Type 0) (old new : Entries) : Type 0 where
  pub card_words : new.card_words ≡ old.card_words
  pub len : length new.starts ≡ length old.starts
  pub entries : (c : ℕ) → R (c * old.card_words) (slice_index old.starts c) (slice_index new.starts c)

-- the card that begins at word w has a as its entry if w is from there up to an end, and else the one that it had
abbrev pub IsPut : ℕ → ℕ → ℕ → ℕ → ℕ → Type 0
IsPut a end w before after = after ≡ (if is_between a end w then a else before)

-- the card that begins at word w, which is from a up to an end, has a as its entry
abbrev pub IsOwn : ℕ → ℕ → ℕ → ℕ → Type 0
IsOwn a end w entry = (a ≤ w) × (w < end) × (entry ≡ a)

-- a card begins in the words from a up to an end
abbrev pub HasCard : ℕ → ℕ → ℕ → Type 0
HasCard card_words a end = (c : ℕ) × (a ≤ c * card_words) × (c * card_words < end)

-- The words from a up to a middle are cut off those up to an end. The card that begins at word w has a as its entry if w is among them. Of
-- the other words' cards the last one has the middle, if a card begins in those that are cut off; and any card that, or the entry it had
pub record IsCutOff (card_words a middle end w before after : ℕ) : Type 0 where
  pub front : a ≤ w → w < middle → after ≡ a
  pub last : HasCard card_words a middle → middle ≤ w → w < end → end ≤ w + card_words → after ≡ middle
  pub others : (w < a) ⊎ (middle ≤ w) → (after ≡ before) ⊎ IsOwn middle end w after

-- so many words are a power of two, fewer than a region can have
pub record IsPower (size shift : ℕ) : Type 0 where
  pub is : size ≡ 2 ^ shift
  pub narrow : shift < 12
