-- What a policy asks: what is live of a run, and whether anything is grey.
use Rattle.std.proofs.Common.{◌≡◌, ◌≢◌, inl, inr, [], ℕ, true, false, Option, Some, None, refl, sym, ◌∙◌, ap, arith}
use Rattle.std.specs.Prelude.{◌↔◌, IsTrue, IsSome, is_some, MatchOption}
use Rattle.heap_model.specs.Heap.{Stored}
use Rattle.bit_sets.specs.Bits.{HasNone}
use Rattle.regions.specs.Table.{object_at, object_words, stored_size}
use Rattle.mark_bitmap.specs.Grey.{is_grey}
use Rattle.step_core.specs.Stands.{CoreState, kept_of}
use Rattle.step_core.specs.Measures.{HasGrey}
use Rattle.step_core.proofs.Mutating.Reading.{object_kept}

something : (o : Option Stored) → (o ≡ None → ⊥) → (s : Stored) × (o ≡ Some s)
something None live = absurd (live refl)
something (Some s) live = (s, refl)

-- what is kept of a run is its object, with all its words
pub live_object : (c : CoreState) (a : ℕ) → (kept_of c a ≡ None → ⊥) → IsSome (object_at c.table a)
live_object c a live = let (s, is) = something (kept_of c a) live in let e = object_kept c a s is in rw e refl

pub live_size : (c : CoreState) (a : ℕ) → (kept_of c a ≡ None → ⊥) → object_words c.table a ≡ stored_size (kept_of c a)
unfolding object_words
live_size c a live = let (s, is) = something (kept_of c a) live in ap stored_size (object_kept c a s is) ∙ sym (ap stored_size is)

-- a root waits
pub root_left : (c : CoreState) → c.marker.running ≡ true → (c.marker.waiting.addresses ≢ []) → IsTrue true ↔ HasGrey c
root_left c run waits = (λ _. record { running = run; left = inl waits }, λ _. refl)

-- none does, and a search finds a grey object where there is one
pub grey_found : (c : CoreState) (o : Option ℕ) → c.marker.running ≡ true → c.marker.waiting.addresses ≡ []
    → MatchOption o (HasNone (is_grey c.marker.bitmaps.next c.marker.grey) 0)
    (λ found. is_grey c.marker.bitmaps.next c.marker.grey found ≡ true)
    → IsTrue (is_some o) ↔ HasGrey c
grey_found c None run empty none = (
  λ found. absurd (let e : false ≡ true = found in cc),
  λ grey. absurd (elim grey.left [ inl waits ↦ waits empty | inr g ↦ (let never = none g.0 (omega arith) in let yes = g.1 in cc) ]),
)
grey_found c (Some a) run empty grey = (λ yes. record { running = run; left = inr (a, grey) }, λ _. refl)
