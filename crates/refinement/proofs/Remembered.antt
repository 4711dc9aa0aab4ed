-- How remembering goes over from one state of the heap to the next.
use Rattle.std.proofs.Common.{◌≡◌, ◌≢◌, ◌⊎◌, ◌/◌, ◌∷◌, ◌++◌, ◌∙◌, inl, inr, ℕ, zero, suc, Bool, true, false, Option, Some, None, List, []}
use Rattle.std.proofs.Common.{map, length, set, ⊎_elim, refl, sym, ap, subst, arith, get_or-set_same, get_or-set_other, length-set}
use Rattle.std.proofs.Common.{slice_get, if◌then◌else◌}
use Rattle.std.proofs.lemmas.Bool.{cases_eq}
use Rattle.std.proofs.lemmas.Option.{slice_get_within, slice_get_read, get_or_from_slice_get}
use Rattle.heap_model.specs.Graph.{held_by}
use Rattle.heap_model.specs.Heap.{Heap, Stored, fields}
use Rattle.heap_model.specs.Marking.{Marking}
use Rattle.heap_model.specs.Weak.{cleared, cleared_word, cleared_after}
use Rattle.heap_model.proofs.Cleared.{cleared_was}
use Rattle.heap_model.proofs.Names.{bool_cases}
use Rattle.heap_model.proofs.Held.{held_by_was}
use Rattle.refinement.specs.Remembering.{field_word, field_card, IsCrossing, ClearsFields, LeadsInside, Remembers}
use Rattle.refinement.specs.Remembering.{KeepsFields, IsNoted, SetsField, AddsNil, NoneLeadsInto}

pub crossing_kept : (words : ℕ) (kept kept' : ℕ → Option Stored) (a i v : ℕ) → KeepsFields kept kept'
    → IsCrossing words kept' a i v → IsCrossing words kept a i v
crossing_kept words kept kept' a i v f x =
    let k = f a x.object x.kept_is in
    record { object = k.0; kept_is = k.1; field_is = ap (λ (l : List (Option ℕ)). slice_get l i) (sym k.2) ∙ x.field_is; leaves = x.leaves }

pub remembers_on : (words len : ℕ) (kept kept' : ℕ → Option Stored) (dirty dirty' : ℕ → Bool) (covered covered' : ℕ → ℕ → Bool)
    → ((a i v : ℕ) → IsCrossing words kept' a i v → IsCrossing words kept a i v ⊎ (dirty' (field_card len a i) ≡ true))
    → ((c : ℕ) → dirty c ≡ true → dirty' c ≡ true)
    → ((a i v c : ℕ) → IsCrossing words kept' a i v → covered (v / words) c ≡ true → covered' (v / words) c ≡ true)
    → Remembers words kept len dirty covered → Remembers words kept' len dirty' covered'
remembers_on words len kept kept' dirty dirty' covered covered' f g h r = record {
  each = λ a i v x.
      ⊎_elim (λ y. ⊎_elim (λ d. inl (g (field_card len a i) d)) (λ c. inr (h a i v (field_card len a i) x c)) (r.each a i v y)) inl
      (f a i v x);
}

pub remembers_none : (words len : ℕ) (kept : ℕ → Option Stored) (dirty : ℕ → Bool) (covered : ℕ → ℕ → Bool) → ((a : ℕ) → kept a ≡ None)
    → Remembers words kept len dirty covered
remembers_none words len kept dirty covered none = record { each = λ a i v x. absurd (let e = none a in let k = x.kept_is in cc) }

pub remembers_fewer : (words len : ℕ) (kept kept' : ℕ → Option Stored) (dirty : ℕ → Bool) (covered : ℕ → ℕ → Bool) → KeepsFields kept kept'
    → Remembers words kept len dirty covered → Remembers words kept' len dirty covered
remembers_fewer words len kept kept' dirty covered f =
    remembers_on words len kept kept' dirty dirty covered covered
    (λ a i v x. inl (crossing_kept words kept kept' a i v f x)) (λ c d. d) (λ a i v c x d. d)

pub remembers_added : (words len at : ℕ) (kept kept' : ℕ → Option Stored) (dirty : ℕ → Bool) (covered : ℕ → ℕ → Bool)
    → AddsNil kept kept' at → Remembers words kept len dirty covered → Remembers words kept' len dirty covered
remembers_added words len at kept kept' dirty covered n =
    remembers_on words len kept kept' dirty dirty covered covered (λ a i v x. ⊎_elim
    (λ same. let is = n.is in
    let k : kept' at ≡ Some x.object = ap kept' (sym same) ∙ x.kept_is in
    let e : x.object ≡ n.object = cc in
    absurd (n.nil i v (ap (λ (s : Stored). slice_get (fields s) i) (sym e) ∙ x.field_is)))
    (λ apart. inl (record { object = x.object; kept_is = sym (n.others a apart) ∙ x.kept_is; field_is = x.field_is; leaves = x.leaves }))
    (cases_eq a at)) (λ c d. d) (λ a i v c x d. d)

-- a field that was set holds the new value, and the others hold theirs
pub set_here : (ps : List (Option ℕ)) (i : ℕ) (v w : Option ℕ) → slice_get (set ps i v) i ≡ Some w → w ≡ v
set_here ps i v w e =
    let inside = slice_get_within (set ps i v) i w e in
    sym (get_or_from_slice_get (set ps i v) i w None e) ∙ get_or-set_same ps i v None (omega (arith, inside, length-set ps i v))

pub set_there : (ps : List (Option ℕ)) (i j : ℕ) (v w : Option ℕ) → j ≢ i → slice_get (set ps i v) j ≡ Some w → slice_get ps j ≡ Some w
set_there ps i j v w apart e =
    let inside = slice_get_within (set ps i v) j w e in
    let read = get_or_from_slice_get (set ps i v) j w w e in
    slice_get_read ps (length ps) j w refl (omega (arith, inside, length-set ps i v)) (sym (sym (get_or-set_other ps i j v w apart) ∙ read))

noted : (words len : ℕ) (dirty : ℕ → Bool) (word v : ℕ) → v / words ≢ word / words
    → IsNoted words len dirty word (Some v) → dirty (word / len) ≡ true
noted words len dirty word v apart n = ⊎_elim (λ same. absurd (apart same)) (λ d. d) n

pub remembers_set : (words len at index : ℕ) (value : Option ℕ) (kept kept' : ℕ → Option Stored)
    (dirty dirty' : ℕ → Bool) (covered : ℕ → ℕ → Bool) → SetsField kept kept' at index value
    → IsNoted words len dirty' (field_word at index) value → ((c : ℕ) → dirty c ≡ true → dirty' c ≡ true)
    → Remembers words kept len dirty covered → Remembers words kept' len dirty' covered
remembers_set words len at index value kept kept' dirty dirty' covered s n g =
    remembers_on words len kept kept' dirty dirty' covered covered (λ a i v x. ⊎_elim
    (λ same. here a i v x same)
    (λ apart. inl (record { object = x.object; kept_is = sym (s.others a apart) ∙ x.kept_is; field_is = x.field_is; leaves = x.leaves }))
    (cases_eq a at)) g (λ a i v c x d. d)
  where
    here : (a i v : ℕ) → IsCrossing words kept' a i v → a ≡ at → IsCrossing words kept a i v ⊎ (dirty' (field_card len a i) ≡ true)
    here a i v x same =
        let is = s.is in
        let k : kept' at ≡ Some x.object = ap kept' (sym same) ∙ x.kept_is in
        let e : x.object ≡ s.after = cc in
        let now : slice_get (set (fields s.before) index value) i ≡ Some (Some v) =
        ap (λ (l : List (Option ℕ)). slice_get l i) (sym s.field) ∙ ap (λ (o : Stored). slice_get (fields o) i) (sym e) ∙ x.field_is in
        ⊎_elim
        (λ (at_is : i ≡ index).
        let here' : slice_get (set (fields s.before) index value) index ≡ Some (Some v) =
        ap (λ (j : ℕ). slice_get (set (fields s.before) index value) j) (sym at_is) ∙ now in
        let value_is : Some v ≡ value = set_here (fields s.before) index value (Some v) here' in
        let word_is : field_word a i ≡ field_word at index = omega (arith, same, at_is) in
        let n' : IsNoted words len dirty' (field_word a i) (Some v) =
        subst (λ (o : Option ℕ). IsNoted words len dirty' (field_word a i) o) (sym value_is)
        (subst (λ (w : ℕ). IsNoted words len dirty' w value) (sym word_is) n) in
        inr (noted words len dirty' (field_word a i) v x.leaves n'))
        (λ apart. inl (record {
          object = s.before;
          kept_is = ap kept same ∙ s.was;
          field_is = set_there (fields s.before) index i value (Some v) apart now;
          leaves = x.leaves;
        }))
        (cases_eq i index)

pub remembers_cleared : (words len region : ℕ) (kept kept' : ℕ → Option Stored) (dirty : ℕ → Bool) (covered covered' : ℕ → ℕ → Bool)
    → KeepsFields kept kept' → NoneLeadsInto words kept' region
    → ((a i v : ℕ) → IsCrossing words kept' a i v → v / words ≢ region → covered (v / words) (field_card len a i) ≡ true
    → covered' (v / words) (field_card len a i) ≡ true) → Remembers words kept len dirty covered → Remembers words kept' len dirty covered'
remembers_cleared words len region kept kept' dirty covered covered' f none g r = record {
  each = λ a i v x. ⊎_elim (λ d. inl d) (λ c. inr (g a i v x (none a i v x) c)) (r.each a i v (crossing_kept words kept kept' a i v f x));
}

-- ---- what keeps the fields of what is kept
pub keeps_same : (kept kept' : ℕ → Option Stored) → ((a : ℕ) → kept' a ≡ kept a) → KeepsFields kept kept'
keeps_same kept kept' same a x e = (x, sym (same a) ∙ e, refl)

pub keeps_gone : (kept kept' : ℕ → Option Stored) (gone : ℕ → Bool)
    → ((a : ℕ) → kept' a ≡ (if gone a then None else kept a)) → KeepsFields kept kept'
keeps_gone kept kept' gone f a x e = go (gone a) (sym (f a) ∙ e)
  where
    go : (b : Bool) → (if b then None else kept a) ≡ Some x → (before : Stored) × (kept a ≡ Some before) × (fields x ≡ fields before)
    go true h = cc
    go false h = (x, h, refl)

pub keeps_values : (kept kept' : ℕ → Option Stored) (at : ℕ) (before after : Stored) → kept at ≡ Some before → kept' at ≡ Some after
    → fields after ≡ fields before → ((a : ℕ) → a ≢ at → kept' a ≡ kept a) → KeepsFields kept kept'
keeps_values kept kept' at before after was is same others a x e = ⊎_elim
    (λ here. let k : kept' at ≡ Some x = ap kept' (sym here) ∙ e in
    let o : x ≡ after = cc in
    (before, ap kept here ∙ was, ap fields o ∙ same)) (λ apart. (x, sym (others a apart) ∙ e, refl))
    (cases_eq a at)

-- ---- fields that become nil
pub crossing_cleared : (words : ℕ) (kept kept' : ℕ → Option Stored) (a i v : ℕ) → ClearsFields kept kept'
    → IsCrossing words kept' a i v → IsCrossing words kept a i v
crossing_cleared words kept kept' a i v f x =
    let k = f a x.object x.kept_is in
    record { object = k.0; kept_is = k.1; field_is = k.2 i v x.field_is; leaves = x.leaves }

pub remembers_cleared_fields : (words len : ℕ) (kept kept' : ℕ → Option Stored) (dirty : ℕ → Bool) (covered : ℕ → ℕ → Bool)
    → ClearsFields kept kept' → Remembers words kept len dirty covered → Remembers words kept' len dirty covered
remembers_cleared_fields words len kept kept' dirty covered f =
    remembers_on words len kept kept' dirty dirty covered covered
    (λ a i v x. inl (crossing_cleared words kept kept' a i v f x)) (λ c d. d) (λ a i v c x d. d)

pub inside_cleared_fields : (words regions : ℕ) (kept kept' : ℕ → Option Stored) → ClearsFields kept kept'
    → LeadsInside words regions kept → LeadsInside words regions kept'
inside_cleared_fields words regions kept kept' f l = record { each = λ a i v s e g. let k = f a s e in l.each a i v k.0 k.1 (k.2 i v g) }

word_was : (m : Marking) (w : Option ℕ) (v : ℕ) → cleared_word m w ≡ Some v → w ≡ Some v
word_was m None v e = cc
word_was m (Some a) v e = elim (bool_cases (m.old a)) [
  | inl o ↦ elim (bool_cases (m.marked a)) [
    | inl k ↦ sym (rw (o, k) refl) ∙ e
    | inr k ↦ absurd (let z : None ≡ Some v = sym (rw (o, k) refl) ∙ e in cc)
  ]
  | inr o ↦ sym (rw o refl) ∙ e
]

slots_were : (m : Marking) (ws ks hs : List (Option ℕ)) (i v : ℕ) → slice_get (map (cleared_word m) ws ++ held_by ks hs) i ≡ Some (Some v)
    → slice_get (ws ++ hs) i ≡ Some (Some v)
slots_were m [] ks hs i v e = held_by_was ks hs i v e
slots_were m (w ∷ ws) ks hs zero v e = let z : cleared_word m w ≡ Some v = cc in ap Some (word_was m w v z)
slots_were m (w ∷ ws) ks hs (suc i) v e = slots_were m ws ks hs i v e

slot_was : (m : Marking) (ps ws ks hs : List (Option ℕ)) (i v : ℕ)
    → slice_get (ps ++ (map (cleared_word m) ws ++ held_by ks hs)) i ≡ Some (Some v) → slice_get (ps ++ (ws ++ hs)) i ≡ Some (Some v)
slot_was m [] ws ks hs i v e = slots_were m ws ks hs i v e
slot_was m (p ∷ ps) ws ks hs zero v e = e
slot_was m (p ∷ ps) ws ks hs (suc i) v e = slot_was m ps ws ks hs i v e

was_cleared : (h : Heap) (m : Marking) (a : ℕ) (s : Stored) → cleared_after h m a ≡ Some s
    → (before : Stored) × (h.kept a ≡ Some before) × (s ≡ cleared m before)
was_cleared h m a s e =
    let w = cleared_was h m a s e in
    elim (bool_cases (m.marked a)) [
      | inl k ↦ (w.0, rw k at w.1, w.2)
      | inr k ↦ elim (bool_cases (m.old a)) [
        | inl o ↦ absurd (let z : None ≡ Some w.0 = rw (k, o) at w.1 in cc)
        | inr o ↦ (w.0, rw (k, o) at w.1, w.2)
      ]
    ]

pub clears_after : (h : Heap) (m : Marking) (kept' : ℕ → Option Stored)
    → ((a : ℕ) → kept' a ≡ cleared_after h m a) → ClearsFields h.kept kept'
clears_after h m kept' same a s e =
    let w = was_cleared h m a s (sym (same a) ∙ e) in (
      w.0,
      w.1,
      λ i v f. slot_was m w.0.pointers w.0.weaks (map (cleared_word m) w.0.weaks) w.0.held i v
          (ap (λ (x : Stored). slice_get (fields x) i) (sym w.2) ∙ f),
    )
