-- Items that are told one at a time.
use Rattle.std.proofs.Common.{◌≡◌, ◌≢◌, ◌∙◌, ℕ, ◌-◌, ◌<◌, ◌≤◌, List, [], ◌∷◌, ◌++◌, Option, Some, None, length, drop, refl, sym, ap, arith}
use Rattle.std.proofs.Common.{inl, inr}
use Rattle.std.specs.Prelude.{slice_get, slice_index_or}
use Rattle.std.proofs.lemmas.Bool.{cases_lt}
use Rattle.std.proofs.lemmas.List.{append-nil}
use Rattle.heap_walk.specs.Walks.{FillsFrom, told_between}
use Rattle.heap_walk.proofs.Telling.{between_more, between_none, between_nothing}
use Rattle.heap_view.specs.Nexts.{IsNext}

none_before : {A : Type 0} (xs ys : List A) → xs ++ ys ≡ [] → xs ≡ []
none_before [] ys e = refl
none_before (x ∷ xs) ys e = cc

no_items : {A : Type 0} (xs : List A) → length xs ≡ 0 → xs ≡ []
no_items [] e = refl
no_items (x ∷ xs) e = absurd (omega arith)

one_item : {A : Type 0} (xs rest all : List A) (x : A) → length xs ≡ 1 → all ≡ xs ++ rest → slice_get all 0 ≡ Some x → xs ≡ x ∷ []
one_item [] rest all x n is e = absurd (omega arith)
one_item {A = A} (y ∷ []) rest all x n is e =
    let first : slice_get (y ∷ rest) 0 ≡ Some x = sym (ap (λ (l : List A). slice_get l 0) is) ∙ e in
    let same : y ≡ x = cc in
    ap (λ (z : A). z ∷ []) same
one_item (y ∷ z ∷ xs) rest all x n is e = absurd (omega arith)

-- a buffer of one item, where nothing is told from the end on
module _ {A : Type 0} (f : ℕ → List A) (end : ℕ) (beyond : (x : ℕ) → end ≤ x → f x ≡ []) where
  none_beyond : (a b : ℕ) → end ≤ a → told_between f a b ≡ []
  none_beyond a b le = between_none f a b (λ x low high. beyond x (omega (arith, low, le)))

  -- none is left
  pub no_next : (from to : ℕ) (before after : List A) (count : ℕ) → FillsFrom f from to end before after count → count ≡ 0
      → length before ≡ 1 → IsNext f end from to None
  no_next from to before after count p zero one =
      let none : told_between f from to ≡ [] = no_items _ (sym p.count_is ∙ zero) in
      let over : end ≤ to = p.over (omega (arith, zero, one)) in
      record {
        told = elim (cases_lt from end) [
          | inl lt ↦ none_before (told_between f from end) (told_between f end to)
              (sym (between_more f from end to (omega (arith, lt)) over) ∙ none)
          | inr ge ↦ none_beyond from end (omega (arith, ge))
        ];
        less = tt;
      }

  moved : (from to : ℕ) (x : A) → from ≤ to → told_between f from to ≡ x ∷ [] → from < to
  moved from to x on told = elim (cases_lt from to) [
    | inl lt ↦ lt
    | inr ge ↦ absurd (
        let same : to ≡ from = omega (arith, on, ge) in
        let none : told_between f from to ≡ [] = ap (λ (y : ℕ). told_between f from y) same ∙ between_nothing f from in
        cc)
  ]

  -- one is told
  pub one_next : (from to : ℕ) (before after : List A) (count : ℕ) (x : A) → FillsFrom f from to end before after count → count ≢ 0
      → length before ≡ 1 → slice_get after 0 ≡ Some x → IsNext f end from to (Some x)
  one_next from to before after count x p some one first =
      let room = p.room in
      let all : count ≡ 1 = omega (arith, some, one, room) in
      let told : told_between f from to ≡ x ∷ [] = one_item _ (drop count before) after x (sym p.count_is ∙ all) p.filled first in
      let on = p.on in
      elim (cases_lt from end) [
        | inr ge ↦ absurd (let none = none_beyond from to (omega (arith, ge)) in cc)
        | inl lt ↦ elim (cases_lt end to) [
          | inl past ↦ record {
            told =
                sym (append-nil (told_between f from end))
                ∙ ap (λ (l : List A). told_between f from end ++ l) (sym (none_beyond end to (omega arith)))
                ∙ sym (between_more f from end to (omega (arith, lt)) (omega (arith, past)))
                ∙ told
                ∙ ap (λ (l : List A). x ∷ l) (sym (none_beyond to end (omega (arith, past))));
            less = omega (arith, lt, past);
          }
          | inr within ↦ record {
            told = between_more f from to end on (omega (arith, within)) ∙ ap (λ (l : List A). l ++ told_between f to end) told;
            less = (let moves = moved from to x on told in omega (arith, lt, within, moves));
          }
        ]
      ]

-- what is told next, and what is left after it
module _ {A : Type 0} (f : ℕ → List A) (end from to : ℕ) where
  pub next_told : (r : Option A) (x : A) → r ≡ Some x → IsNext f end from to r → told_between f from end ≡ x ∷ told_between f to end
  next_told None x e p = cc
  next_told (Some y) x e p = p.told ∙ ap (λ (z : A). z ∷ told_between f to end) (let same : y ≡ x = cc in same)

  pub next_less : (r : Option A) (x : A) → r ≡ Some x → IsNext f end from to r → end - to < end - from
  next_less None x e p = cc
  next_less (Some y) x e p = p.less

  pub next_none : (r : Option A) → r ≡ None → IsNext f end from to r → told_between f from end ≡ []
  next_none None e p = p.told
  next_none (Some y) e p = cc

-- the first item of a buffer
pub first_of : {A : Type 0} (xs : List A) (d : A) → 0 < length xs → slice_get xs 0 ≡ Some (slice_index_or xs 0 d)
first_of [] d lt = absurd (omega (arith, lt))
first_of (x ∷ xs) d lt = refl
