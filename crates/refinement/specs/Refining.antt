-- What scanning a card and refining one do.
use Rattle.std.specs.Prelude.{◌≡◌, ◌⊎◌, ◌*◌, ◌/◌, ◌<◌, ◌≤◌, ◌==◌, ◌∷◌, if◌then◌else◌}
use Rattle.std.specs.Prelude.{ℕ, Bool, true, false, All, List, [], length, Option, Some, None, slice_get, slice_set}
use Rattle.heap_model.specs.Heap.{Stored}
use Rattle.regions.specs.Table.{Table, fields_at}
use Rattle.mark_bitmap.specs.Tops.{Tops}
use Rattle.mark_bitmap.specs.Kept.{kept_in}
use Rattle.cards.specs.Cards.{Cards}
use Rattle.remembered_sets.specs.Sets.{Sets, added, may_lead}
use Rattle.refinement.specs.Remembering.{field_card, IsCrossing, LeadsInto, IsCovered, LeadsInside}

-- a region is a whole number of cards, and has a remembered set
pub record SetsFit (t : Table) (card_words : ℕ) (sets : Sets) : Type 0 where
  pub whole_cards : t.words_per_region ≡ sets.cards_per_region * card_words
  pub each_region : length sets.sets ≡ length t.regions

-- besides, marks and fields of kept objects are those of the table
pub record CanScan (t : Table) (tops : Tops) (previous : List Bool) (card_words : ℕ) (sets : Sets) : Type 0 where
  pub fit : SetsFit t card_words sets
  pub each_word : length previous ≡ length t.regions * t.words_per_region
  pub inside : LeadsInside t.words_per_region (length t.regions) (kept_in t tops previous)

-- the card is added to the sets of some regions, in order
abbrev pub added_to : List ℕ → ℕ → Sets → Sets
added_to [] card sets = sets
added_to (region ∷ regions) card sets = added_to regions card (added sets region card)

-- the card is added to the sets of some regions, into each of which a crossing field in the card leads, and nothing else
-- changes
pub record AddsCard (words : ℕ) (kept : ℕ → Option Stored) (card_words card : ℕ) (old new : Sets) : Type 0 where
  pub regions : List ℕ
  pub asked : All (LeadsInto words kept card_words card) regions
  pub new_is : new ≡ added_to regions card old

-- the card was the queue's front and is clean now, and nothing else of the cards changed
pub record IsTaken (card : ℕ) (old new : Cards) : Type 0 where
  pub queue : old.queue ≡ card ∷ new.queue
  pub dirty : new.dirty ≡ slice_set old.dirty card false
  pub logs : new.logs ≡ old.logs

-- the front of the queue was taken, and its crossing fields are covered
pub record IsRefined (words : ℕ) (kept : ℕ → Option Stored) (card_words : ℕ) (cards cards' : Cards) (sets sets' : Sets) : Type 0 where
  pub card : ℕ
  pub taken : IsTaken card cards cards'
  pub adds : AddsCard words kept card_words card sets sets'
  pub covered : IsCovered words kept card_words card (may_lead sets')

-- what is done where there was a card in the queue, and that nothing is where there was none
abbrev pub Refines : Bool → ℕ → (ℕ → Option Stored) → ℕ → Cards → Cards → Sets → Sets → Type 0
Refines true words kept card_words cards cards' sets sets' = IsRefined words kept card_words cards cards' sets sets'
Refines false words kept card_words cards cards' sets sets' = (cards.queue ≡ []) × (cards' ≡ cards) × (sets' ≡ sets)

-- ---- within a scan
-- the crossing fields of one object that are in the card are covered
pub record IsObjectCovered (words : ℕ) (kept : ℕ → Option Stored) (card_words card : ℕ) (covered : ℕ → ℕ → Bool) (at : ℕ) : Type 0 where
  pub each : (index target : ℕ) → IsCrossing words kept at index target
      → field_card card_words at index ≡ card → covered (target / words) card ≡ true

-- the same for the objects of a region from an address on
abbrev pub AreObjectsCovered : Table → (ℕ → Option Stored) → ℕ → ℕ → (ℕ → ℕ → Bool) → ℕ → Type 0
AreObjectsCovered t kept card_words card covered first =
    (at : ℕ) → first ≤ at → at / t.words_per_region ≡ first / t.words_per_region
    → IsObjectCovered t.words_per_region kept card_words card covered at

-- the fields of the object at an address lead into regions of the table
abbrev pub FieldsInside : Table → ℕ → Type 0
FieldsInside t at =
    (index target : ℕ) → slice_get (fields_at t at) index ≡ Some (Some target) → target / t.words_per_region < length t.regions

-- each of an object's fields from one on, below another, is nil or leads into one of two regions
abbrev pub LeadInto : Table → ℕ → ℕ → ℕ → ℕ → ℕ → Type 0
LeadInto t at start end one other =
    (index target : ℕ) → start ≤ index → index < end → slice_get (fields_at t at) index ≡ Some (Some target)
    → (target / t.words_per_region ≡ one) ⊎ (target / t.words_per_region ≡ other)

-- the sets once a field was looked at: the card is added where the field leads into another region than its word's
abbrev pub with_field : ℕ → ℕ → ℕ → Option ℕ → Sets → Sets
with_field words card word None sets = sets
with_field words card word (Some target) sets = if target / words == word / words then sets else added sets (target / words) card

-- once the fields of an object that are in the card were looked at
pub record IsScanned (words : ℕ) (kept : ℕ → Option Stored) (card_words card at : ℕ) (old new : Sets) : Type 0 where
  pub adds : AddsCard words kept card_words card old new
  pub covered : IsObjectCovered words kept card_words card (may_lead new) at
