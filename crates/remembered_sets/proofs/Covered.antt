-- What one region's set covers as cards are added.
use Rattle.std.proofs.Common.{◌≡◌, ◌⊎◌, ◌+◌, ◌*◌, ◌/◌, ◌%◌, ◌<◌, ◌≤◌, if◌then◌else◌, ◌∷◌, ◌++◌, ◌∙◌, inl, inr, ℕ, Bool, true, false, cond}
use Rattle.std.proofs.Common.{eqb, ltb, List, [], length, get_or, set, replicate, ⊎_elim, refl, sym, ap, arith, get_or-set_same}
use Rattle.std.proofs.Common.{get_or-set_other, length-set, length-append, ◌||◌, eq-eqb, ne_eqb, eqb-true, ltb-true, ltb-false}
use Rattle.std.specs.List.{list_any}
use Rattle.std.proofs.lemmas.Bool.{cases_lt, cases_eq, or_cases, false≢true, or_left, or_right}
use Rattle.std.proofs.lemmas.List.{get_or_past, get_or-replicate, length-replicate}
use Rattle.std.proofs.lemmas.List.Elements.{All-push, All-nil}
use Rattle.std.proofs.lemmas.List.Folds.{list_any-append}
use Rattle.std.proofs.lemmas.List.Sums.{sum_by-cons, sum_by_push}
use Rattle.remembered_sets.specs.Sets.{CardFilter, CardSet, IsSet, set_covers, set_with, set_after, letting, lets_through, empty_set}
use Rattle.remembered_sets.specs.Sets.{emptied, times_in}
use Rattle.remembered_sets.proofs.Filters.{IsFilter-with, IsFilter-empty, IsFilter-emptied, lets_with, lets_still, marks_grow}

-- the set with a card more inline, and with a region marked whole
abbrev pub inline_with : CardSet → ℕ → CardSet
inline_with s card = record { inline = s.inline ++ card ∷ []; sources = s.sources; filter = s.filter }

abbrev pub marked_with : CardSet → ℕ → CardSet
marked_with s source = record { inline = s.inline; sources = set s.sources source true; filter = s.filter }

-- what holds of a set that covers the card, and after each way of adding one that it doesn't cover
pub with_cases : (P : CardSet → Type 0) (s : CardSet) (card source : ℕ) → (set_covers s card source ≡ true → P s)
    → (set_covers s card source ≡ false → length s.inline < 16 → P (inline_with s card))
    → (set_covers s card source ≡ false → 16 ≤ length s.inline → P (marked_with s source)) → P (set_with s card source)
with_cases P s card source was short full =
    elim (set_covers s card source) as
    (λ b. set_covers s card source ≡ b
    → P (if b then s else if ltb (length s.inline) 16 then inline_with s card else marked_with s source)) [
      | true ↦ was
      | false ↦ λ e. elim (ltb (length s.inline) 16) as
          (λ b. ltb (length s.inline) 16 ≡ b → P (if b then inline_with s card else marked_with s source)) [
            | true ↦ λ l. short e (ltb-true (length s.inline) 16 l)
            | false ↦ λ l. full e (ltb-false (length s.inline) 16 l)
          ] refl
    ] refl

-- ---- a card more inline
inline_any : (xs : List ℕ) (card c : ℕ)
    → list_any (λ x. eqb x c) (xs ++ card ∷ []) ≡ (list_any (λ x. eqb x c) xs || list_any (λ x. eqb x c) (card ∷ []))
inline_any xs card c = list_any-append (λ x. eqb x c) xs (card ∷ [])

inline_grows : (s : CardSet) (card c k : ℕ) → set_covers s c k ≡ true → set_covers (inline_with s card) c k ≡ true
inline_grows s card c k h =
    let was : Bool = list_any (λ x. eqb x c) s.inline in
    let now : Bool = list_any (λ x. eqb x c) (s.inline ++ card ∷ []) in
    let source : Bool = get_or s.sources k false in
    ⊎_elim (λ l. or_left now source (inline_any s.inline card c ∙ or_left was (list_any (λ x. eqb x c) (card ∷ [])) l))
    (λ m. or_right now source m) (or_cases was source h)

inline_covers : (s : CardSet) (card k : ℕ) → set_covers (inline_with s card) card k ≡ true
inline_covers s card k =
    let one : list_any (λ x. eqb x card) (card ∷ []) ≡ true = or_left (eqb card card) false (eq-eqb card card refl) in
    or_left (list_any (λ x. eqb x card) (s.inline ++ card ∷ [])) (get_or s.sources k false)
    (inline_any s.inline card card ∙ or_right (list_any (λ x. eqb x card) s.inline) (list_any (λ x. eqb x card) (card ∷ [])) one)

inline_only : (s : CardSet) (card c k : ℕ) → set_covers (inline_with s card) c k ≡ true → (set_covers s c k ≡ true) ⊎ (c ≡ card)
inline_only s card c k h =
    let was : Bool = list_any (λ x. eqb x c) s.inline in
    let source : Bool = get_or s.sources k false in
    ⊎_elim
    (λ now. ⊎_elim
    (λ l. inl (or_left was source l))
    (λ one. ⊎_elim (λ e. inr (sym (eqb-true card c e))) (λ none. absurd (false≢true none)) (or_cases (eqb card c) false one))
    (or_cases was (list_any (λ x. eqb x c) (card ∷ [])) (sym (inline_any s.inline card c) ∙ now)))
    (λ m. inl (or_right was source m))
    (or_cases (list_any (λ x. eqb x c) (s.inline ++ card ∷ [])) source h)

-- ---- a region marked whole
marked_grows : (s : CardSet) (source c k : ℕ) → set_covers s c k ≡ true → set_covers (marked_with s source) c k ≡ true
marked_grows s source c k h =
    let inline : Bool = list_any (λ x. eqb x c) s.inline in
    let now : Bool = get_or (set s.sources source true) k false in
    ⊎_elim (λ l. or_left inline now l) (λ m. or_right inline now (marks_grow s.sources source k m))
    (or_cases inline (get_or s.sources k false) h)

marked_covers : (s : CardSet) (c source : ℕ) → source < length s.sources → set_covers (marked_with s source) c source ≡ true
marked_covers s c source h = or_right (list_any (λ x. eqb x c) s.inline) (get_or (set s.sources source true) source false)
    (get_or-set_same s.sources source true false h)

marked_only : (s : CardSet) (source c k : ℕ) → set_covers (marked_with s source) c k ≡ true → (set_covers s c k ≡ true) ⊎ (k ≡ source)
marked_only s source c k h =
    let inline : Bool = list_any (λ x. eqb x c) s.inline in
    ⊎_elim
    (λ l. inl (or_left inline (get_or s.sources k false) l))
    (λ m. ⊎_elim inr (λ differs.
    inl (or_right inline (get_or s.sources k false) (sym (get_or-set_other s.sources source k true false differs) ∙ m)))
    (cases_eq k source)) (or_cases inline (get_or (set s.sources source true) k false) h)

-- ---- a card is added
pub set_grows : (s : CardSet) (card source c k : ℕ) → set_covers s c k ≡ true → set_covers (set_with s card source) c k ≡ true
set_grows s card source c k h =
    with_cases (λ t. set_covers t c k ≡ true) s card source (λ was. h) (λ missing short. inline_grows s card c k h)
    (λ missing full. marked_grows s source c k h)

pub set_covers-with : (s : CardSet) (card source : ℕ) → source < length s.sources → set_covers (set_with s card source) card source ≡ true
set_covers-with s card source h =
    with_cases (λ t. set_covers t card source ≡ true) s card source (λ was. was) (λ missing short. inline_covers s card source)
    (λ missing full. marked_covers s card source h)

pub set_only : (s : CardSet) (card source c k : ℕ) → set_covers (set_with s card source) c k ≡ true
    → (set_covers s c k ≡ true) ⊎ ((c ≡ card) ⊎ (k ≡ source))
set_only s card source c k =
    with_cases (λ t. set_covers t c k ≡ true → (set_covers s c k ≡ true) ⊎ ((c ≡ card) ⊎ (k ≡ source))) s card source
    (λ was h. inl h)
    (λ missing short h. ⊎_elim inl (λ e. inr (inl e)) (inline_only s card c k h))
    (λ missing full h. ⊎_elim inl (λ e. inr (inr e)) (marked_only s source c k h))

pub set_only_card : (s : CardSet) (card source c k : ℕ) → length s.inline < 16 → set_covers (set_with s card source) c k ≡ true
    → (set_covers s c k ≡ true) ⊎ (c ≡ card)
set_only_card s card source c k few =
    with_cases (λ t. set_covers t c k ≡ true → (set_covers s c k ≡ true) ⊎ (c ≡ card)) s card source
    (λ was h. inl h)
    (λ missing short h. inline_only s card c k h)
    (λ missing full h. absurd (omega (arith, few, full)))

-- ---- what every set is
abbrev bit : Bool → ℕ
bit b = cond b 1 0

or_false : (a b : Bool) → (a || b) ≡ false → a ≡ false
or_false true b e = e
or_false false b e = refl

or_false_right : (a b : Bool) → (a || b) ≡ false → b ≡ false
or_false_right true b e = absurd (false≢true (sym e))
or_false_right false b e = e

none_counted : (xs : List ℕ) (c : ℕ) → list_any (λ x. eqb x c) xs ≡ false → times_in c xs ≡ 0
none_counted [] c h = refl
none_counted (x ∷ xs) c h =
    let first : eqb x c ≡ false = or_false (eqb x c) (list_any (λ x. eqb x c) xs) h in
    let rest = none_counted xs c (or_false_right (eqb x c) (list_any (λ x. eqb x c) xs) h) in
    omega (arith, sum_by-cons (λ y. bit (eqb y c)) x xs, ap bit first, rest)

times_after : (xs : List ℕ) (card x : ℕ) → times_in x (xs ++ card ∷ []) ≡ times_in x xs + bit (eqb card x)
times_after xs card x = sum_by_push (λ y. bit (eqb y x)) xs card

once_after : (xs : List ℕ) (card x : ℕ) → list_any (λ y. eqb y card) xs ≡ false → times_in x xs ≤ 1 → times_in x (xs ++ card ∷ []) ≤ 1
once_after xs card x missing h = ⊎_elim
    (λ (same : card ≡ x).
    omega (arith, times_after xs card x, ap (λ k. times_in k xs) same, none_counted xs card missing, ap bit (eq-eqb card x same)))
    (λ differs. omega (arith, h, times_after xs card x, ap bit (ne_eqb card x differs)))
    (cases_eq card x)

pub IsSet-with : (n w : ℕ) (s : CardSet) (card source : ℕ) → IsSet n w s → card < n * w → IsSet n w (set_with s card source)
IsSet-with n w s card source all h =
    with_cases (IsSet n w) s card source (λ was. all)
    (λ missing short. record {
      few = omega (arith, short, length-append s.inline (card ∷ []));
      once = λ x.
          once_after s.inline card x (or_false (list_any (λ y. eqb y card) s.inline) (get_or s.sources source false) missing) (all.once x);
      known = All-push (λ c. c < n * w) s.inline card all.known h;
      marks = all.marks;
      filter = all.filter;
    })
    (λ missing full. record {
      few = all.few;
      once = all.once;
      known = all.known;
      marks = length-set s.sources source true ∙ all.marks;
      filter = all.filter;
    })

pub IsSet-letting : (n w : ℕ) (s : CardSet) (card : ℕ) → IsSet n w s → IsSet n w (letting s w card)
IsSet-letting n w s card all = record {
  few = all.few;
  once = all.once;
  known = all.known;
  marks = all.marks;
  filter = IsFilter-with w s.filter card all.filter;
}

pub IsSet-after : (n w : ℕ) (s : CardSet) (card : ℕ) → IsSet n w s → card < n * w → IsSet n w (set_after s w card)
IsSet-after n w s card all h = IsSet-with n w (letting s w card) card (card / w) (IsSet-letting n w s card all) h

pub IsSet-empty : (n w rows : ℕ) → (0 < rows → w % 64 ≡ 0) → IsSet n w (empty_set n w rows)
IsSet-empty n w rows whole = record {
  few = omega arith;
  once = λ x. omega arith;
  known = All-nil (λ c. c < n * w);
  marks = length-replicate n false;
  filter = IsFilter-empty w rows whole;
}

pub IsSet-emptied : (n w : ℕ) (s : CardSet) → IsSet n w s → IsSet n w (emptied s)
IsSet-emptied n w s all = record {
  few = omega arith;
  once = λ x. omega arith;
  known = All-nil (λ c. c < n * w);
  marks = length-replicate (length s.sources) false ∙ all.marks;
  filter = IsFilter-emptied w s.filter all.filter;
}

-- an emptied set covers nothing
pub empty_covers : (regions c k : ℕ) → (list_any (λ x. eqb x c) [] || get_or (replicate regions false) k false) ≡ false
empty_covers regions c k =
    ⊎_elim (λ h. get_or-replicate regions k false false h)
    (λ h. get_or_past (replicate regions false) k false (omega (arith, length-replicate regions false))) (cases_lt k regions)

pub emptied_covers : (s : CardSet) (c k : ℕ) → set_covers (emptied s) c k ≡ false
emptied_covers s c k = empty_covers (length s.sources) c k

-- an emptied set is as it was, emptied once more
pub emptied_twice : (s : CardSet) → emptied (emptied s) ≡ emptied s
emptied_twice s = rw (length-replicate (length s.sources) false, length-replicate (length s.filter.flags) false) refl

-- ---- which cards the filter lets through
pub filter_stays : (s : CardSet) (card source : ℕ) → (set_with s card source).filter ≡ s.filter
filter_stays s card source =
    with_cases (λ t. t.filter ≡ s.filter) s card source (λ was. refl) (λ missing short. refl) (λ missing full. refl)

pub set_lets_after : (s : CardSet) (n w card : ℕ) → 0 < w → IsSet n w s → lets_through (set_after s w card).filter w card ≡ true
set_lets_after s n w card some all =
    ap (λ (f : CardFilter). lets_through f w card) (filter_stays (letting s w card) card (card / w))
    ∙ lets_with s.filter w card some all.filter

pub set_lets_still : (s : CardSet) (w card c : ℕ) → lets_through s.filter w c ≡ true → lets_through (set_after s w card).filter w c ≡ true
set_lets_still s w card c was =
    ap (λ (f : CardFilter). lets_through f w c) (filter_stays (letting s w card) card (card / w)) ∙ lets_still s.filter w card c was
