-- Cross-region pointers stay remembered, after each kind of change.
use Rattle.std.proofs.Common.{◌≡◌, ℕ, Option, Some, refl, sym, ◌∙◌, ap, inl, inr, slice_get, slice_set}
use Rattle.std.proofs.lemmas.Bool.{cases_eq}
use Rattle.heap_model.specs.Heap.{Heap, Stored, ObjectSet, ObjectAdded, fields}
use Rattle.cards.specs.Cards.{Cards, is_dirty}
use Rattle.remembered_sets.specs.Sets.{Sets, may_lead}
use Rattle.refinement.specs.Remembering.{Remembers, KeepsFields, IsNoted, field_word}
use Rattle.refinement.proofs.Remembered.{remembers_fewer, remembers_added, remembers_set}
use Rattle.heap_words.specs.Configs.{card_words}
use Rattle.step_core.specs.Stands.{CoreState, kept_of, heap_of, RemembersFields}

-- the same objects
pub same_fields : (kept kept' : ℕ → Option Stored) → ((a : ℕ) → kept' a ≡ kept a) → KeepsFields kept kept'
same_fields kept kept' same = λ a o e. (o, sym (same a) ∙ e, refl)

-- one object is written, with the same fields
pub written_fields : (h h' : Heap) (d : ℕ) (x y : Stored) → ObjectSet h h' d x y → fields y ≡ fields x → KeepsFields h.kept h'.kept
written_fields h h' d x y v same = λ a o e.
    elim (cases_eq a d) [
      | inl q ↦ (
        x,
        ap h.kept q ∙ v.was,
        (let here : o ≡ y = let e2 = v.is in let e3 = ap h'.kept q in cc in ap (λ (z : Stored). fields z) here ∙ same),
      )
      | inr n ↦ (o, sym (v.others a n) ∙ e, refl)
    ]

-- the same words, cards and sets
moved : (w w' n n' : ℕ) (kept : ℕ → Option Stored) (k k' : Cards) (s s' : Sets) → w' ≡ w → n' ≡ n → k' ≡ k → s' ≡ s
    → Remembers w kept n (is_dirty k) (may_lead s) → Remembers w' kept n' (is_dirty k') (may_lead s')
moved w w' n n' kept k k' s s' ew en ek es r = rw (ew, en, ek, es) r

-- what is kept has the fields that it had
pub remembers_on : (c c' : CoreState) → c'.config ≡ c.config → c'.table.words_per_region ≡ c.table.words_per_region → c'.cards ≡ c.cards
    → c'.sets ≡ c.sets → KeepsFields (kept_of c) (kept_of c') → RemembersFields c → RemembersFields c'
remembers_on c c' config size cards sets fewer r =
    moved c.table.words_per_region c'.table.words_per_region (card_words c.config) (card_words c'.config) (kept_of c') c.cards c'.cards
    c.sets c'.sets size (ap card_words config) cards sets
    (remembers_fewer c.table.words_per_region (card_words c.config) (kept_of c) (kept_of c') (is_dirty c.cards) (may_lead c.sets) fewer r)

-- one more object, with nil fields
pub remembers_new : (c c' : CoreState) (a : ℕ) (x : Stored) (place : ℕ) → c'.config ≡ c.config
    → c'.table.words_per_region ≡ c.table.words_per_region → c'.cards ≡ c.cards → c'.sets ≡ c.sets
    → ObjectAdded (heap_of c) (heap_of c') a x place → ((i b : ℕ) → slice_get (fields x) i ≡ Some (Some b) → ⊥)
    → RemembersFields c → RemembersFields c'
remembers_new c c' a x place config size cards sets v nil r =
    moved c.table.words_per_region c'.table.words_per_region (card_words c.config) (card_words c'.config) (kept_of c') c.cards c'.cards
    c.sets c'.sets size (ap card_words config) cards sets
    (remembers_added c.table.words_per_region (card_words c.config) a (kept_of c) (kept_of c') (is_dirty c.cards) (may_lead c.sets)
    (record { object = x; is = v.is; nil = λ i b e. nil i b e; others = v.others }) r)

-- a field takes a value whose card is noted
pub remembers_stored : (c c' : CoreState) (a i : ℕ) (w : Option ℕ) (x y : Stored) → c'.config ≡ c.config
    → c'.table.words_per_region ≡ c.table.words_per_region → c'.cards ≡ c.cards → c'.sets ≡ c.sets
    → ObjectSet (heap_of c) (heap_of c') a x y → fields y ≡ slice_set (fields x) i w
    → IsNoted c.table.words_per_region (card_words c.config) (is_dirty c.cards) (field_word a i) w
    → RemembersFields c → RemembersFields c'
remembers_stored c c' a i w x y config size cards sets v set noted r =
    moved c.table.words_per_region c'.table.words_per_region (card_words c.config) (card_words c'.config) (kept_of c') c.cards c'.cards
    c.sets c'.sets size (ap card_words config) cards sets
    (remembers_set c.table.words_per_region (card_words c.config) a i w (kept_of c) (kept_of c')
    (is_dirty c.cards) (is_dirty c.cards) (may_lead c.sets)
    (record { before = x; after = y; was = v.was; is = v.is; field = set; others = v.others }) noted (λ card d. d) r)
