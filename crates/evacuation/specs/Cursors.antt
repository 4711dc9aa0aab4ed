-- What is done so far of the fields of a region or of a card, while its tiles change.
use Rattle.std.specs.Prelude.{◌≡◌, ℕ, ◌/◌, ◌<◌, Option, Some, List, Bool, false, slice_get}
use Rattle.heap_model.specs.Heap.{Stored, fields}
use Rattle.regions.specs.Table.{Table, fields_at}
use Rattle.refinement.specs.Remembering.{field_word}
use Rattle.evacuation.specs.Space.{IsFieldClean, IsObjectSettled, IsVisited, IsSettled}
use Rattle.evacuation.specs.declared.room.Notes.{Notes}
use Rattle.evacuation.specs.Turns.{Pause, in_set, layout, plan, space, kept_now}

-- the objects of region k below an address are settled
abbrev pub AreSettledBelow : Pause → Notes → Table → ℕ → ℕ → Type 0
AreSettledBelow p noted t k at = (b : ℕ) (y : Stored) → b / p.start.words_per_region ≡ k → b < at → kept_now p t b ≡ Some y
    → IsObjectSettled (layout p) noted (space p t) b

-- the fields below one of the object at an address are settled
abbrev pub AreFieldsSettled : Pause → Notes → Table → ℕ → ℕ → Type 0
AreFieldsSettled p noted t at n = (i : ℕ) → i < n → (y : Stored) (w : Option ℕ) → kept_now p t at ≡ Some y → slice_get (fields y) i ≡ Some w
    → IsSettled (layout p) noted (field_word at i) w

-- the fields of the object at an address that lie in a card are clean
abbrev pub AreCardsFieldsClean : Pause → Table → ℕ → ℕ → Type 0
AreCardsFieldsClean p t card at = (i : ℕ) → field_word at i / p.card_words ≡ card → IsFieldClean (layout p) (space p t) at i

-- the fields of the object at an address that lie in a card name nothing of the set
abbrev pub AreCardsFieldsOutside : Pause → Table → ℕ → ℕ → Type 0
AreCardsFieldsOutside p t card at =
    (i a : ℕ) → field_word at i / p.card_words ≡ card → slice_get (fields_at t at) i ≡ Some (Some a) → in_set p a ≡ false

-- the fields of a card that are to be visited, and belong to objects below an address, are clean
abbrev pub AreCleanBelow : Pause → List Bool → Table → ℕ → ℕ → Type 0
AreCleanBelow p visited t card at = (b i : ℕ) → IsVisited (layout p) (plan p) visited b i → field_word b i / p.card_words ≡ card → b < at
    → IsFieldClean (layout p) (space p t) b i

abbrev pub IsCardClean : Pause → List Bool → Table → ℕ → Type 0
IsCardClean p visited t card =
    (b i : ℕ) → IsVisited (layout p) (plan p) visited b i → field_word b i / p.card_words ≡ card → IsFieldClean (layout p) (space p t) b i
