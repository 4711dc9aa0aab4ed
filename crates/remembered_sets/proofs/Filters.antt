-- What a filter lets through as cards are added.
use Rattle.std.proofs.Common.{◌≡◌, ◌+◌, ◌-◌, ◌*◌, ◌/◌, ◌%◌, ◌<◌, ◌≤◌, ◌∙◌, inl, inr, ℕ, Bool, true, false, eqb, length, get_or, set, List}
use Rattle.std.proofs.Common.{⊎_elim, refl, sym, ap, ap₂, subst, arith, get_or-set_same, get_or-set_other, length-set, ◌||◌, ◌&&◌}
use Rattle.std.proofs.Common.{if◌then◌else◌, eq-eqb, ne_eqb, eqb-true}
use Rattle.std.proofs.lemmas.Bool.{cases_lt, cases_eq, eqb-false, false≢true, and_from, and_parts, or_left, or_right}
use Rattle.std.proofs.lemmas.List.{get_or_past, length-replicate, set-get_or}
use Rattle.std.proofs.lemmas.Nat.{mul-add-lt, div-mul-add}
use Rattle.std.proofs.Math.Nat.{pos_of_ne-zero}
use Rattle.bit_sets.specs.Bits.{has, is_between}
use Rattle.bit_sets.proofs.BitRanges.{between_yes, between_no_below, between_no_above, between_same}
use Rattle.remembered_sets.specs.Sets.{CardFilter, IsFilter, lets_through, filter_with, taking, empty_filter, emptied_filter, first_row}
use Rattle.remembered_sets.specs.Sets.{second_row, place_in}

-- what is flagged stays so
pub marks_grow : (flags : List Bool) (i k : ℕ) → get_or flags k false ≡ true → get_or (set flags i true) k false ≡ true
marks_grow flags i k e =
    let inside : k < length flags =
    ⊎_elim (λ h. h) (λ h. absurd (false≢true (sym (get_or_past flags k false h) ∙ e))) (cases_lt k (length flags)) in
    ⊎_elim
    (λ same. subst (λ j. get_or (set flags j true) k false ≡ true) same (get_or-set_same flags k true false inside))
    (λ differs. get_or-set_other flags i k true false differs ∙ e)
    (cases_eq k i)

-- ---- places
pub first_below : (rows source : ℕ) → 0 < rows → first_row rows source < 2 * rows
first_below rows source some = omega arith

pub second_below : (rows source : ℕ) → 0 < rows → second_row rows source < 3 * rows
unfolding second_row
second_below rows source some =
    let r : (source % rows + source / (2 * rows)) % rows < rows = omega arith in
    omega arith

-- a place in a row that there is is a flag's
pub place_below : (rows row w card n : ℕ) → 0 < w → row < 3 * rows → n ≡ 3 * rows * w → place_in row w card < n
place_below rows row w card n some h e =
    let near : card % w < w = omega arith in
    let all : row * w + card % w < w * (3 * rows) = mul-add-lt row w (card % w) (3 * rows) h near in
    let turned : w * (3 * rows) ≡ 3 * rows * w = omega arith in
    omega (arith, all, turned)

pub place_fits : (rows row w card source number n : ℕ) → 0 < w → row < 3 * rows → n ≡ 3 * rows * w → card / w ≡ source → number ≡ card
    → row * w + (number - source * w) < n
place_fits rows row w card source number n some h e own same =
    let all : row * w + card % w < n = place_below rows row w card n some h e in
    let whole : card / w * w + card % w ≡ card = omega arith in
    let whole' : source * w + card % w ≡ card = ap (λ (x : ℕ). x * w + card % w) (sym own) ∙ whole in
    omega (arith, all, whole', same)

module _ (f : CardFilter) (w : ℕ) (some : 0 < w) (is : IsFilter w f) (some_rows : 0 < f.rows) where
  pub first_within : (card : ℕ) → place_in (first_row f.rows (card / w)) w card < length f.flags
  first_within card =
      place_below f.rows (first_row f.rows (card / w)) w card (length f.flags) some
      (omega (arith, first_below f.rows (card / w) some_rows)) is.size

  pub second_within : (card : ℕ) → place_in (second_row f.rows (card / w)) w card < length f.flags
  second_within card =
      place_below f.rows (second_row f.rows (card / w)) w card (length f.flags) some (second_below f.rows (card / w) some_rows) is.size

-- what holds of a filter that has no rows, and of one whose places are taken
pub filter_cases : (P : CardFilter → Type 0) (f : CardFilter) (w card : ℕ) → (f.rows ≡ 0 → P f)
    → (0 < f.rows → P (taking f w card)) → P (filter_with f w card)
filter_cases P f w card none some =
    elim (eqb f.rows 0) as (λ b. eqb f.rows 0 ≡ b → P (if b then f else taking f w card)) [
      | true ↦ λ e. none (eqb-true f.rows 0 e)
      | false ↦ λ e. some (pos_of_ne-zero (eqb-false f.rows 0 e))
    ] refl

pub rows_with : (f : CardFilter) (w card : ℕ) → (filter_with f w card).rows ≡ f.rows
rows_with f w card = filter_cases (λ g. g.rows ≡ f.rows) f w card (λ none. refl) (λ some. refl)

-- ---- what every filter is
pub IsFilter-with : (w : ℕ) (f : CardFilter) (card : ℕ) → IsFilter w f → IsFilter w (filter_with f w card)
IsFilter-with w f card is =
    let i : ℕ = place_in (first_row f.rows (card / w)) w card in
    let j : ℕ = place_in (second_row f.rows (card / w)) w card in
    filter_cases (IsFilter w) f w card (λ none. is)
    (λ some. record { size = length-set (set f.flags i true) j true ∙ length-set f.flags i true ∙ is.size; whole = is.whole })

pub IsFilter-empty : (w rows : ℕ) → (0 < rows → w % 64 ≡ 0) → IsFilter w (empty_filter w rows)
IsFilter-empty w rows whole = record { size = length-replicate (3 * rows * w) false; whole = whole }

pub IsFilter-emptied : (w : ℕ) (f : CardFilter) → IsFilter w f → IsFilter w (emptied_filter f)
IsFilter-emptied w f is = record { size = length-replicate (length f.flags) false ∙ is.size; whole = is.whole }

-- ---- a card is let through
-- two flags that are set
both_set : (flags : List Bool) (i j : ℕ) → i < length flags → j < length flags
    → (has (set (set flags i true) j true) i && has (set (set flags i true) j true) j) ≡ true
both_set flags i j h k =
    and_from (has (set (set flags i true) j true) i) (has (set (set flags i true) j true) j)
    (marks_grow (set flags i true) j i (get_or-set_same flags i true false h))
    (get_or-set_same (set flags i true) j true false (omega (arith, k, length-set flags i true)))

both_still : (flags : List Bool) (i j a b : ℕ) → (has flags a && has flags b) ≡ true
    → (has (set (set flags i true) j true) a && has (set (set flags i true) j true) b) ≡ true
both_still flags i j a b was =
    let (x, y) = and_parts (has flags a) (has flags b) was in
    and_from (has (set (set flags i true) j true) a) (has (set (set flags i true) j true) b)
    (marks_grow (set flags i true) j a (marks_grow flags i a x)) (marks_grow (set flags i true) j b (marks_grow flags i b y))

-- whether both places of a card are taken
abbrev pub both_taken : CardFilter → ℕ → ℕ → Bool
both_taken f w card =
    has f.flags (place_in (first_row f.rows (card / w)) w card) && has f.flags (place_in (second_row f.rows (card / w)) w card)

pub lets_with : (f : CardFilter) (w card : ℕ) → 0 < w → IsFilter w f → lets_through (filter_with f w card) w card ≡ true
lets_with f w card some is =
    filter_cases (λ g. lets_through g w card ≡ true) f w card
    (λ none. or_left (eqb f.rows 0) (both_taken f w card) (eq-eqb f.rows 0 none))
    (λ rows. or_right (eqb f.rows 0) (both_taken (taking f w card) w card)
    (both_set f.flags (place_in (first_row f.rows (card / w)) w card) (place_in (second_row f.rows (card / w)) w card)
    (first_within f w some is rows card) (second_within f w some is rows card)))

-- where there are rows, what is let through has both its places taken
pub taken_of : (f : CardFilter) (w c : ℕ) → 0 < f.rows → lets_through f w c ≡ true → both_taken f w c ≡ true
taken_of f w c rows was =
    let no : eqb f.rows 0 ≡ false = ne_eqb f.rows 0 (λ e. absurd (omega (arith, rows, e))) in
    ap (λ (b : Bool). b || both_taken f w c) (sym no) ∙ was

pub lets_still : (f : CardFilter) (w card c : ℕ) → lets_through f w c ≡ true → lets_through (filter_with f w card) w c ≡ true
lets_still f w card c was =
    filter_cases (λ g. lets_through g w c ≡ true) f w card (λ none. was)
    (λ rows. or_right (eqb f.rows 0) (both_taken (taking f w card) w c)
    (both_still f.flags (place_in (first_row f.rows (card / w)) w card) (place_in (second_row f.rows (card / w)) w card)
    (place_in (first_row f.rows (c / w)) w c) (place_in (second_row f.rows (c / w)) w c) (taken_of f w c rows was)))

-- ---- 64 cards at once
-- a card between a region's first card and the next region's is the region's
pub region_of : (region w card : ℕ) → 0 < w → region * w ≤ card → card < region * w + w → card / w ≡ region
region_of region w card some low high =
    let e : region * w + (card - region * w) ≡ card = omega arith in
    ap (λ (x : ℕ). x / w) (sym e) ∙ div-mul-add region w (card - region * w) (omega arith)

-- a group of 64 of a row's flags is among those of so many rows
pub group_within : (row w q g rows n : ℕ) → w ≡ 64 * q → g < q → row < rows → n ≡ rows * w → 64 * (row * q + g) + 64 ≤ n
group_within row w q g rows n e h k f =
    let all : row * q + g < q * rows = mul-add-lt row q g rows k h in
    let size : n ≡ 64 * (q * rows) = f ∙ ap (λ (x : ℕ). rows * x) e ∙ omega arith in
    omega (arith, all, size)

-- the place of a card of the group g of its region, by the group of its row
pub place_in_group : (row region w q g card : ℕ) → 0 < w → w ≡ 64 * q → g < q → 64 * (region * q + g) ≤ card
    → card < 64 * (region * q + g) + 64 → (place_in row w card ≡ 64 * (row * q + g) + card % 64) × (card / w ≡ region)
place_in_group row region w q g card some e h low high =
    let start : region * w ≡ 64 * (region * q) = ap (λ (x : ℕ). region * x) e ∙ omega arith in
    let begin : row * w ≡ 64 * (row * q) = ap (λ (x : ℕ). row * x) e ∙ omega arith in
    let own : card / w ≡ region = region_of region w card some (omega (arith, start, low)) (omega (arith, start, high, e, h)) in
    let whole : card / w * w + card % w ≡ card = omega arith in
    let whole' : region * w + card % w ≡ card = ap (λ (x : ℕ). x * w + card % w) (sym own) ∙ whole in
    let near : card % 64 ≡ card - 64 * (region * q + g) = omega (arith, low, high) in
    (omega (arith, start, begin, whole', near, low), own)

pub or_none : (b : Bool) → (b || false) ≡ b
or_none true = refl
or_none false = refl

-- one group more is done
pub one_more : (start upto next card : ℕ) (old cur new member passing lets : Bool) → start ≤ upto → next ≡ upto + 64
    → cur ≡ (old || (is_between start upto card && (member && lets)))
    → new ≡ (cur || (is_between upto (upto + 64) card && (member && passing)))
    → (upto ≤ card → card < upto + 64 → passing ≡ lets) → new ≡ (old || (is_between start next card && (member && lets)))
one_more start upto next card old cur new member passing lets h e before after same = elim (cases_lt card upto) [
  | inl low ↦
      after ∙ ap (λ (b : Bool). cur || (b && (member && passing))) (between_no_below upto (upto + 64) card low) ∙ or_none cur ∙ before
      ∙ ap (λ (b : Bool). old || (b && (member && lets))) (between_same start upto next card (λ b. omega arith) (λ b. low))
  | inr from ↦ elim (cases_lt card (upto + 64)) [
    | inl inside ↦
        after ∙ ap₂ (λ (x b : Bool). x || (b && (member && passing)))
        (before ∙ ap (λ (b : Bool). old || (b && (member && lets))) (between_no_above start upto card from) ∙ or_none old)
        (between_yes upto (upto + 64) card from inside)
        ∙ ap (λ (b : Bool). old || (member && b)) (same from inside)
        ∙ ap (λ (b : Bool). old || (b && (member && lets))) (sym (between_yes start next card (omega arith) (omega arith)))
    | inr past ↦
        after ∙ ap (λ (b : Bool). cur || (b && (member && passing))) (between_no_above upto (upto + 64) card past) ∙ or_none cur ∙ before
        ∙ ap (λ (b : Bool). old || (b && (member && lets)))
        (between_no_above start upto card from ∙ sym (between_no_above start next card (omega arith)))
  ]
]

-- ---- a card that passes already
pub set_again : (flags : List Bool) (i : ℕ) → has flags i ≡ true → set flags i true ≡ flags
set_again flags i e = subst (λ b. set flags i b ≡ flags) e (set-get_or flags i false)

pub filter_again : (f : CardFilter) (w card : ℕ) → lets_through f w card ≡ true → filter_with f w card ≡ f
filter_again f w card =
    let i : ℕ = place_in (first_row f.rows (card / w)) w card in
    let j : ℕ = place_in (second_row f.rows (card / w)) w card in
    filter_cases (λ g. lets_through f w card ≡ true → g ≡ f) f w card (λ none e. refl)
    (λ some e.
    let (first, second) = and_parts (has f.flags i) (has f.flags j)
    (sym (ap (λ b. b || (has f.flags i && has f.flags j)) (ne_eqb f.rows 0 (λ z. absurd (omega (arith, some, z))))) ∙ e) in
    ap (λ (flags : List Bool). record { rows = f.rows; flags = set flags j true }) (set_again f.flags i first)
    ∙ ap (λ (flags : List Bool). record { rows = f.rows; flags = flags }) (set_again f.flags j second))
