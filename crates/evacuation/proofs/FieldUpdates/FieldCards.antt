-- The word of a field, and its card.
use Rattle.heap_words.specs.Configs.{max_words}
use Rattle.std.proofs.Common.{◌≡◌, ◌+◌, ◌*◌, ◌/◌, ◌<◌, ◌≤◌, ◌∙◌, ◌≢◌, ℕ, Bool, true, false, List, Option, Some, None, length, refl}
use Rattle.std.proofs.Common.{sym, ap, subst, inl, inr, arith, slice_get}
use Rattle.std.proofs.lemmas.Bool.{cases_lt}
use Rattle.std.proofs.lemmas.Nat.{mul-le}
use Rattle.heap_model.specs.Heap.{Stored, fields}
use Rattle.regions.proofs.Words.FieldAccess.{count_fields}
use Rattle.regions.specs.Table.{Table, fields_at}
use Rattle.regions.specs.Shaped.{IsShaped}
use Rattle.regions.proofs.Words.Divides.{div_low, card_has_words}
use Rattle.refinement.proofs.Holders.{fields_of, object_within}
use Rattle.std.proofs.lemmas.Bool.{cases_Bool}
use Rattle.heap_model.specs.Relocation.{IsMoved}
use Rattle.heap_model.specs.Evacuation.{IsWord, place_after}
use Rattle.heap_model.proofs.Lists.{AllZip-get_right}
use Rattle.object_copy.specs.Copies.{Destinations}
use Rattle.refinement.proofs.Holders.{object_known}
use Rattle.refinement.proofs.Fields.{region_of_card}
use Rattle.evacuation.specs.Space.{Layout, IsOutsideSet, IsField, IsFieldClean, IsOfWord, IsStill, NotesFor, NotesGrow, NotesWord, is_noted}
use Rattle.evacuation.specs.Space.{with_note}
use Rattle.evacuation.specs.Turns.{AreNotes, IsCardPlace, Pause, IsPause, IsTurn, TableStays, EachCard}
use Rattle.evacuation.specs.Turns.{in_set, kept_now, layout, plan, space}
use Rattle.evacuation.specs.declared.room.Notes.{Notes}
use Rattle.evacuation.proofs.Notes.{IsNoteOf, for_others, none_for, note_for, note_grows, notes_stay}
use Rattle.evacuation.proofs.Turns.KeptObjects.{kept_object, start_kept}

pub field_pointer : (p : Pause) (t : Table) (at i : ℕ) → (f : IsField (space p t) at i) → i < length (fields_at t at)
field_pointer p t at i f = let e = fields_of t at f.object (kept_object p t at f.object f.at) in let w = f.within in rw e w

pub pointer_is : (p : Pause) (t : Table) (at i : ℕ) (y : Stored) (w : Option ℕ) → kept_now p t at ≡ Some y
    → slice_get (fields_at t at) i ≡ Some w → slice_get (fields y) i ≡ Some w
pointer_is p t at i y w at_is e =
    let q = fields_of t at y (kept_object p t at y at_is) in
    ap (λ (m : List (Option ℕ)). slice_get m i) (sym q) ∙ e

pub still_count : (p : Pause) (t : Table) (at n : ℕ) → IsStill (space p t) at n → length (fields_at t at) ≡ n
still_count p t at n s = ap (λ (m : List (Option ℕ)). length m) (fields_of t at s.0 (kept_object p t at s.0 s.1)) ∙ s.2

-- a nil field names nothing of the set
pub nil_clean : (p : Pause) (t : Table) (at i : ℕ) → slice_get (fields_at t at) i ≡ Some None → IsFieldClean (layout p) (space p t) at i
nil_clean p t at i e y w here f =
    let k = pointer_is p t at i y None here e in
    let same : None ≡ w = cc in
    subst (IsOutsideSet (layout p)) same tt

-- a field's word lies in the heap
pub word_within : (p : Pause) (t : Table) (at i : ℕ) → IsShaped t → TableStays p t → (f : IsField (space p t) at i)
    → at + 2 + i < length p.start.regions * p.start.words_per_region
word_within p t at i shaped s f =
    let is = kept_object p t at f.object f.at in
    let a = object_within t at f.object shaped is in
    let b : length t.regions * t.words_per_region ≡ length p.start.regions * p.start.words_per_region = rw (s.count, s.size) refl in
    let w = f.within in
    omega (arith, count_fields f.object)

pub all_small : (p : Pause) → IsPause p → length p.start.regions * p.start.words_per_region ≤ max_words
all_small p q = q.shaped.in_all

-- and its card among the cards
below : (word len n q size card : ℕ) → 0 < len → size ≡ q * len → word < n * size → card * len ≤ word → card < n * q
below word len n q size card z e h low = elim (cases_lt card (n * q)) [
  | inl k ↦ k
  | inr k ↦ absurd (let p = mul-le (n * q) len card len k (omega arith) in
      let whole : n * q * len ≡ n * size = rw e (omega arith) in
      omega (arith, p, whole))
]

pub card_within : (p : Pause) (noted : List Bool) (word len : ℕ) → IsPause p → len ≡ p.card_words → EachCard p noted
    → word < length p.start.regions * p.start.words_per_region → word / len < length noted
card_within p noted word len q e n h =
    let z = card_has_words p.card_words p.start.words_per_region p.cards_per_region q.shaped.positive q.whole_cards in
    let low = div_low word p.card_words (word / p.card_words) z refl in
    let k = below word p.card_words (length p.start.regions) p.cards_per_region p.start.words_per_region
    (word / p.card_words) z q.whole_cards h low in
    subst (λ (m : ℕ). word / m < length noted) (sym e) (omega (arith, k, n))

-- a word's card is noted, and no other one
pub notes_crossing : (l : Layout) (n n' : Notes) (word target card region : ℕ) → card < length n.cards → region < length n.sets.sets
    → word / l.card_words ≡ card → region ≡ target / l.words → target / l.words ≢ word / l.words → n' ≡ with_note n card region
    → is_noted n' card region ≡ true → NotesWord l n n' word target
notes_crossing l n n' word target card region in_cards known in_card into out is noted = record {
  is_noted = inr (ap (λ (c : ℕ). is_noted n' c (target / l.words)) in_card ∙ ap (is_noted n' card) (sym into) ∙ noted);
  grows = subst (NotesGrow n) (sym is) (note_grows n card region in_cards known);
  only = for_others (IsNoteOf card region) (IsOfWord l word target) n n'
      (λ c k q. record { card_is = q.0 ∙ sym in_card; region_is = q.1 ∙ into; leaves = out })
      (subst (NotesFor (IsNoteOf card region) n) (sym is) (note_for n card region in_cards known));
}

-- the word leads to its own region, and nothing is noted for it
pub notes_none : (l : Layout) (n : Notes) (word target : ℕ) → target / l.words ≡ word / l.words → NotesWord l n n word target
notes_none l n word target same =
    record { is_noted = inl same; grows = notes_stay n; only = none_for (IsOfWord l word target) n }

-- each card can be noted still
pub notes_on : (p : Pause) (n n' : Notes) → AreNotes p n → NotesGrow n n' → AreNotes p n'
notes_on p n n' are grows = record {
  each_card = grows.count ∙ are.each_card;
  each_set = grows.sets.count ∙ are.each_set;
  set_cards = grows.sets.cards ∙ are.set_cards;
}

-- what a field outside the set names, if that is outside too, lies in one of the regions: it stood there, or it is a copy
pub target_known : (p : Pause) → IsPause p → (t : Table) (d : Destinations) → IsTurn p t d → (at i c : ℕ) (y : Stored)
    → kept_now p t at ≡ Some y → in_set p at ≡ false → slice_get (fields y) i ≡ Some (Some c)
    → c / p.start.words_per_region < length p.start.regions
target_known p q t d turn at i c y here out names =
    let h = turn.copying.heap in
    let o = h.came at y here out in
    let k = h.objects o.from at o.object o.at o.placed in
    let same : y ≡ k.part = let e1 = k.at in cc in
    let e = subst (λ (z : Stored). slice_get (fields z) i ≡ Some (Some c)) same names in
    let (w, is, v) =
    AllZip-get_right (IsWord (place_after (in_set p) (space p t).forward)) (fields o.object) (fields k.part) k.words i (Some c) e in
    elim v [
      | inl was ↦ stood i c o.from o.object o.at (is ∙ ap Some (sym was))
      | inr moved ↦ place w is moved
    ]
  where
    stood : (i c a : ℕ) (x : Stored) → (plan p).heap.kept a ≡ Some x → slice_get (fields x) i ≡ Some (Some c)
        → c / p.start.words_per_region < length p.start.regions
    stood i c a x at e =
        let (z, f) = q.plan_is.closed.field a i c x at e in
        object_known p.start c z (kept_object p p.start c z (start_kept p c ∙ f))

    place : (w : Option ℕ) → slice_get (fields (turn.copying.heap.came at y here out).object) i ≡ Some w
        → IsMoved (place_after (in_set p) (space p t).forward) w (Some c) → c / p.start.words_per_region < length p.start.regions
    place None is m = absurd m
    place (Some a) is m = elim (cases_Bool (in_set p a)) [
      | inl inside ↦ (let f : (space p t).forward a ≡ Some c = rw inside at m in
          (turn.taken (c / p.start.words_per_region) (turn.copying.placed a c inside f)).2)
      | inr outside ↦ (let f : Some a ≡ Some c = rw outside at m in
          let o = turn.copying.heap.came at y here out in
          stood i c o.from o.object o.at (is ∙ ap Some f))
    ]

-- a word's card, and the region that both are in
pub place_of_word : (p : Pause) → IsPause p → (noted : List Bool) → EachCard p noted → (word len card home : ℕ) → len ≡ p.card_words
    → word < length p.start.regions * p.start.words_per_region → card ≡ word / len → home ≡ word / p.start.words_per_region
    → IsCardPlace p (record { card = card; home = home })
place_of_word p q noted each word len card home e h own region = record {
  known = let k = card_within p noted word len q e each h in omega (arith, k, own, each);
  home = ap (λ (n : ℕ). n / p.cards_per_region) (own ∙ ap (λ (n : ℕ). word / n) e)
      ∙ region_of_card p.start.words_per_region p.card_words p.cards_per_region word q.shaped.positive q.whole_cards ∙ sym region;
}
