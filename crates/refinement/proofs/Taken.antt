-- What is remembered once a card was taken from the queue and entered.
use Rattle.std.proofs.Common.{◌≡◌, ◌⊎◌, ◌/◌, ◌∙◌, inl, inr, ℕ, Bool, true, false, Option, List, refl, ap, set, get_or, get_or-set_other}
use Rattle.std.proofs.lemmas.Bool.{cases_eq}
use Rattle.heap_model.specs.Heap.{Stored}
use Rattle.refinement.specs.Remembering.{Remembers, IsCovered, IsCrossing, LeadsInto, field_card}

-- the other dirty cards stay dirty, and a field in this one leads where the card is covered now
pub taken_remembers : (words card_words card : ℕ) (kept : ℕ → Option Stored) (dirty dirty' : List Bool) (covered covered' : ℕ → ℕ → Bool)
    → dirty' ≡ set dirty card false → IsCovered words kept card_words card covered'
    → ((region c : ℕ) → covered region c ≡ true → covered' region c ≡ true)
    → Remembers words kept card_words (λ c. get_or dirty c false) covered
    → Remembers words kept card_words (λ c. get_or dirty' c false) covered'
taken_remembers words card_words card kept dirty dirty' covered covered' cleaned own stays before = record { each = each }
  where
    each : (at index target : ℕ) → IsCrossing words kept at index target
        → (get_or dirty' (field_card card_words at index) false ≡ true)
        ⊎ (covered' (target / words) (field_card card_words at index) ≡ true)
    each at index target x = elim (cases_eq (field_card card_words at index) card) [
      | inl same ↦
          let into : LeadsInto words kept card_words card (target / words) =
          record { at = at; index = index; target = target; crossing = x; in_card = same; into = refl } in
          inr (ap (covered' (target / words)) same ∙ own.each (target / words) into)
      | inr ne ↦ elim (before.each at index target x) [
        | inl was ↦ inl (ap (λ (l : List Bool). get_or l (field_card card_words at index) false) cleaned
            ∙ get_or-set_other dirty card (field_card card_words at index) false false ne ∙ was)
        | inr was ↦ inr (stays (target / words) (field_card card_words at index) was)
      ]
    ]
