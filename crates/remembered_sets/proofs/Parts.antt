-- What one of the four filters of a table lets through.
use Rattle.std.proofs.Common.{◌≡◌, ◌+◌, ◌*◌, ◌/◌, ◌%◌, ◌<◌, ◌≤◌, ◌∙◌, inl, inr, ℕ, zero, suc, Bool, true, false, length, set, List, refl}
use Rattle.std.proofs.Common.{sym, ap, ap₂, arith, ◌||◌, ◌&&◌, if◌then◌else◌, eq-eqb, ne_eqb}
use Rattle.std.proofs.lemmas.Bool.{cases_lt}
use Rattle.std.proofs.lemmas.List.{get_or_past}
use Rattle.bit_sets.specs.Bits.{has, is_passing}
use Rattle.remembered_sets.specs.Sets.{CardFilter, IsFilter, filter_with, lets_through, taking, first_row, second_row, place_in}
use Rattle.remembered_sets.specs.Sharing.{part_flags, filter_at}
use Rattle.remembered_sets.specs.Inside.{four_of, IsSoundFilter}
use Rattle.remembered_sets.specs.declared.filter.Filter.TheInside.{Inside}
use Rattle.remembered_sets.proofs.Filters.{first_below, second_below, place_below, place_in_group, group_within}
use Rattle.remembered_sets.proofs.Sharing.{filter_is, length-part, taken-part, within}
use Rattle.bit_sets.proofs.BitWords.{and-false}

-- a filter that is one of the four of a table
pub record IsPart (f : CardFilter) (w : ℕ) (t : Inside) (part : ℕ) : Type 0 where
  pub is : f ≡ record { rows = t.rows; flags = part_flags t.used t.flags t.size part }
  pub rows_are : f.rows ≡ t.rows
  pub size_is : t.size ≡ 3 * t.rows * w
  pub below : part < 4
  pub all : length t.flags ≡ 4 * t.size

pub part_at : (t : Inside) (four : List CardFilter) (w part : ℕ) → four_of t ≡ four → IsSoundFilter t → part < 4
    → IsFilter w (filter_at four part) → IsPart (filter_at four part) w t part
part_at t four w part view all below f =
    let is : filter_at four part ≡ record { rows = t.rows; flags = part_flags t.used t.flags t.size part } =
    ap (λ (l : List CardFilter). filter_at l part) (sym view) ∙ filter_is t.rows t.used t.flags t.size part below in
    let rows_are : (filter_at four part).rows ≡ t.rows = ap (λ (g : CardFilter). g.rows) is in
    record {
      is = is;
      rows_are = rows_are;
      size_is = sym (length-part t.used t.flags t.size part) ∙ ap (λ (g : CardFilter). length g.flags) (sym is) ∙ f.size
          ∙ ap (λ (n : ℕ). 3 * n * w) rows_are;
      below = below;
      all = all;
    }

few_of : (rows w n : ℕ) → 0 < w → 3 * rows * w < n → 3 * rows < n
few_of rows zero n some h = absurd (omega arith)
few_of rows (suc k) n some h = omega arith

pub unused_has : (used flags : List Bool) (size part place : ℕ) → has used part ≡ false
    → has (part_flags used flags size part) place ≡ false
unused_has used flags size part place unused = elim (cases_lt place size) [
  | inl h ↦ taken-part used flags size part place h ∙ ap (λ (b : Bool). b && has flags (part * size + place)) unused
  | inr past ↦ get_or_past (part_flags used flags size part) place false (omega (arith, past, length-part used flags size part))
]

-- whether both places of a card are taken
abbrev both_in : List Bool → ℕ → ℕ → ℕ → Bool
both_in flags rows w card =
    has flags (place_in (first_row rows (card / w)) w card) && has flags (place_in (second_row rows (card / w)) w card)

-- where there are rows, that is what the filter looks at
lets_by_rows : (f : CardFilter) (w rows : ℕ) (flags : List Bool) (card : ℕ) → f ≡ record { rows = rows; flags = flags } → 0 < rows
    → lets_through f w card ≡ both_in flags rows w card
lets_by_rows f w rows flags card is some =
    ap (λ (g : CardFilter). lets_through g w card) is
    ∙ ap (λ (b : Bool). b || both_in flags rows w card) (ne_eqb rows 0 (λ e. absurd (omega (arith, some, e))))

pub in_groups : (w : ℕ) → w % 64 ≡ 0 → w ≡ 64 * (w / 64)
in_groups w e = omega (arith, e)

-- ---- one card
module _ {f : CardFilter} {w : ℕ} {t : Inside} {part : ℕ} (is : IsPart f w t part) where
  abbrev pf : List Bool
  pf = part_flags t.used t.flags t.size part

  pub has_rows : 0 < f.rows → 0 < t.rows
  has_rows h = omega (arith, h, is.rows_are)

  pub few_flags : (n : ℕ) → length t.flags < n → 3 * t.rows * w < n
  few_flags n h = omega (arith, h, is.all, is.size_is)

  pub few_rows : (n : ℕ) → 0 < w → length t.flags < n → 3 * t.rows < n
  few_rows n some h = few_of t.rows w n some (few_flags n h)

  pub in_table : (at : ℕ) → at < 3 * t.rows * w → part * t.size + at < length t.flags
  in_table at h = within t.size part at (length t.flags) is.below (omega (arith, h, is.size_is)) is.all

  pub lets_all : (card : ℕ) → t.rows ≡ 0 → lets_through f w card ≡ true
  lets_all card e = rw (eq-eqb f.rows 0 (is.rows_are ∙ e)) refl

  pub filter_none : (card : ℕ) → t.rows ≡ 0 → filter_with f w card ≡ f
  filter_none card e = ap (λ (b : Bool). if b then f else taking f w card) (eq-eqb f.rows 0 (is.rows_are ∙ e))

  pub lets_none : (card : ℕ) → 0 < t.rows → has t.used part ≡ false → lets_through f w card ≡ false
  lets_none card some unused =
      lets_by_rows f w t.rows pf card is.is some
      ∙ ap (λ (b : Bool). b && has pf (place_in (second_row t.rows (card / w)) w card))
      (unused_has t.used t.flags t.size part (place_in (first_row t.rows (card / w)) w card) unused)

  used_has : (place : ℕ) → has t.used part ≡ true → place < 3 * t.rows * w → has t.flags (part * t.size + place) ≡ has pf place
  used_has place counts h =
      sym (taken-part t.used t.flags t.size part place (omega (arith, h, is.size_is))
      ∙ ap (λ (b : Bool). b && has t.flags (part * t.size + place)) counts)

  pub lets_both : (card source first second : ℕ) → 0 < t.rows → has t.used part ≡ true → card / w ≡ source
      → (first < 3 * t.rows * w) × (second < 3 * t.rows * w) → first ≡ place_in (first_row t.rows source) w card
      → second ≡ place_in (second_row t.rows source) w card
      → (has t.flags (part * t.size + first) && has t.flags (part * t.size + second)) ≡ lets_through f w card
  lets_both card source first second some counts own (h, k) a b =
      ap₂ (λ (x y : Bool). x && y) (used_has first counts h) (used_has second counts k)
      ∙ ap₂ (λ (x y : ℕ). has pf x && has pf y) a b
      ∙ ap (λ (r : ℕ). has pf (place_in (first_row t.rows r) w card) && has pf (place_in (second_row t.rows r) w card)) (sym own)
      ∙ sym (lets_by_rows f w t.rows pf card is.is some)

  -- the filter once the card's places are taken, where these were computed
  pub taking_is : (card source first second : ℕ) → card / w ≡ source → first ≡ place_in (first_row t.rows source) w card
      → second ≡ place_in (second_row t.rows source) w card
      → record { rows = t.rows; flags = set (set pf first true) second true } ≡ taking f w card
  taking_is card source first second own a b =
      ap₂ (λ (x y : ℕ). record { rows = t.rows; flags = set (set pf x true) y true })
      (a ∙ ap (λ (r : ℕ). place_in (first_row t.rows r) w card) (sym own))
      (b ∙ ap (λ (r : ℕ). place_in (second_row t.rows r) w card) (sym own))
      ∙ ap (λ (g : CardFilter). taking g w card) (sym is.is)

  -- ---- 64 cards at once: the group g of the q of each row
  abbrev pub start : ℕ
  start = part * (t.size / 64)

  starts_at : (q : ℕ) → w ≡ 64 * q → part * t.size ≡ 64 * start
  starts_at q e =
      let groups : t.size ≡ 64 * (3 * t.rows * q) = is.size_is ∙ ap (λ (x : ℕ). 3 * t.rows * x) e ∙ omega arith in
      let whole : t.size ≡ 64 * (t.size / 64) = omega (arith, groups) in
      ap (λ (x : ℕ). part * x) whole ∙ omega arith

  -- it is among the table's flags
  pub group_fits : (row q g : ℕ) → w ≡ 64 * q → g < q → row < 3 * t.rows → 64 * (start + row * q + g) + 64 ≤ length t.flags
  group_fits row q g e h below =
      let inside : 64 * (row * q + g) + 64 ≤ t.size = group_within row w q g (3 * t.rows) t.size e h below is.size_is in
      let last : part * t.size + (64 * (row * q + g) + 63) < length t.flags =
      in_table (64 * (row * q + g) + 63) (omega (arith, inside, is.size_is)) in
      omega (arith, starts_at q e, last)

  -- its places are the part's
  row_in_group : (row region q g card : ℕ) → 0 < w → has t.used part ≡ true → w ≡ 64 * q → g < q → 64 * (region * q + g) ≤ card
      → card < 64 * (region * q + g) + 64 → row < 3 * t.rows
      → has t.flags (64 * (start + row * q + g) + card % 64) ≡ has pf (place_in row w card)
  row_in_group row region q g card some counts e h low high below =
      let (at, own) = place_in_group row region w q g card some e h low high in
      let there : 64 * (start + row * q + g) + card % 64 ≡ part * t.size + place_in row w card = omega (arith, starts_at q e, at) in
      ap (has t.flags) there
      ∙ used_has (place_in row w card) counts (place_below t.rows row w card (3 * t.rows * w) some below refl)

  pub lets_in_group : (region q g card first second : ℕ) → 0 < w → 0 < t.rows → has t.used part ≡ true → w ≡ 64 * q → g < q
      → 64 * (region * q + g) ≤ card → card < 64 * (region * q + g) + 64 → first ≡ first_row t.rows region
      → second ≡ second_row t.rows region
      → is_passing t.flags (start + first * q + g) (start + second * q + g) card ≡ lets_through f w card
  lets_in_group region q g card first second some rows_some counts e h low high a b =
      let (at, own) = place_in_group first region w q g card some e h low high in
      let one : first < 3 * t.rows = omega (arith, a, first_below t.rows region rows_some) in
      let two : second < 3 * t.rows = omega (arith, b, second_below t.rows region rows_some) in
      ap₂ (λ (x y : Bool). x && y) (row_in_group first region q g card some counts e h low high one)
      (row_in_group second region q g card some counts e h low high two)
      ∙ ap₂ (λ (x y : ℕ). has pf (place_in x w card) && has pf (place_in y w card)) a b
      ∙ ap (λ (r : ℕ). has pf (place_in (first_row t.rows r) w card) && has pf (place_in (second_row t.rows r) w card)) (sym own)
      ∙ sym (lets_by_rows f w t.rows pf card is.is rows_some)

-- where the filter lets none through no flag is set
pub none_more : (old near member lets : Bool) → lets ≡ false → old ≡ (old || (near && (member && lets)))
none_more true near member lets e = refl
none_more false near member lets e =
    sym (ap (λ (b : Bool). near && (member && b)) e ∙ ap (λ (b : Bool). near && b) (and-false member) ∙ and-false near)

-- and where it lets all through each member is flagged
pub all_member : (member lets : Bool) → lets ≡ true → member ≡ (member && lets)
all_member true lets e = sym e
all_member false lets e = refl
