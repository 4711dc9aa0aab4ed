-- What filters owe before a card is added, and after.
use Rattle.std.proofs.Common.{◌≡◌, ◌+◌, ◌*◌, ◌/◌, ◌<◌, ◌≤◌, ◌∙◌, inl, inr, ℕ, Bool, true, false, if◌then◌else◌, List, length}
use Rattle.std.proofs.Common.{refl, sym, ap, arith}
use Rattle.std.specs.List.{list_any}
use Rattle.std.proofs.lemmas.Bool.{cases_lt, and_parts}
use Rattle.std.proofs.lemmas.List.{get_or_past, get_or_default}
use Rattle.std.proofs.lemmas.List.Folds.{list_any_at, list_any_none}
use Rattle.std.proofs.lemmas.List.Sums.{sum_by-set}
use Rattle.bit_sets.specs.Bits.{has}
use Rattle.remembered_sets.specs.Sets.{CardFilter, CardSet, Sets, IsFilter, AreSets, added, filter_with, first_row}
use Rattle.remembered_sets.specs.Sets.{letting, no_set, place_in}
use Rattle.remembered_sets.specs.Sets.{second_row, set_after, set_of, set_with}
use Rattle.remembered_sets.specs.Sharing.{part_flags}
use Rattle.remembered_sets.specs.Owed.{owed, owed_by}
use Rattle.remembered_sets.specs.declared.filter.Filter.TheInside.{Inside}
use Rattle.remembered_sets.proofs.Covered.{with_cases}
use Rattle.remembered_sets.proofs.Filters.{IsFilter-with, lets_with, rows_with, taken_of}
use Rattle.remembered_sets.proofs.Parts.{IsPart, unused_has}
use Rattle.remembered_sets.proofs.Sharing.{length-part}

-- ---- before
module _ {f : CardFilter} {w : ℕ} {t : Inside} {part : ℕ} (is : IsPart f w t part) where
  -- a part that wasn't used owes all its words
  owes_all : has t.used part ≡ false → owed_by f ≡ t.size / 64
  owes_all unused =
      let flags : List Bool = part_flags t.used t.flags t.size part in
      let none : list_any (λ (b : Bool). b) flags ≡ false =
      list_any_none (λ (b : Bool). b) flags
      (λ i d h. get_or_default flags i d false h ∙ unused_has t.used t.flags t.size part i unused) in
      ap owed_by is.is ∙ ap (λ (b : Bool). if b then 0 else length flags / 64) none
      ∙ ap (λ (n : ℕ). n / 64) (length-part t.used t.flags t.size part)

  -- so it pays for what is cleared, where anything is
  pub owes_turns : (before now : ℕ) → now ≡ before + (if has t.used part then 0 else t.size / 64) → now ≤ before + owed_by f
  owes_turns before now e = go (has t.used part) refl
    where
      go : (b : Bool) → has t.used part ≡ b → now ≤ before + owed_by f
      go true h =
          let none : now ≡ before + 0 = e ∙ ap (λ (b : Bool). before + (if b then 0 else t.size / 64)) h in omega (arith, none)
      go false h =
          let all : now ≡ before + t.size / 64 = e ∙ ap (λ (b : Bool). before + (if b then 0 else t.size / 64)) h in
          omega (arith, all, owes_all h)

-- ---- after
some_flag : (flags : List Bool) (i : ℕ) → has flags i ≡ true → list_any (λ (b : Bool). b) flags ≡ true
some_flag flags i h = elim (cases_lt i (length flags)) [
  | inl below ↦ list_any_at (λ (b : Bool). b) flags i false below h
  | inr past ↦ absurd (let z : false ≡ true = sym (get_or_past flags i false past) ∙ h in cc)
]

few_words : (b : Bool) (n : ℕ) → n ≡ 0 → (if b then 0 else n / 64) ≡ 0
few_words true n e = refl
few_words false n e = omega (arith, e)

-- a filter to which a card was added owes nothing
pub owes_none : (f : CardFilter) (w card : ℕ) → 0 < w → IsFilter w f → owed_by (filter_with f w card) ≡ 0
owes_none f w card some is = elim (cases_lt 0 f.rows) [
  | inl rows ↦
      let g : CardFilter = filter_with f w card in
      let there : 0 < g.rows = omega (arith, rows, rows_with f w card) in
      let both = and_parts (has g.flags (place_in (first_row g.rows (card / w)) w card))
      (has g.flags (place_in (second_row g.rows (card / w)) w card)) (taken_of g w card there (lets_with f w card some is)) in
      ap (λ (b : Bool). if b then 0 else length g.flags / 64)
      (some_flag g.flags (place_in (first_row g.rows (card / w)) w card) both.0)
  | inr none ↦
      let g : CardFilter = filter_with f w card in
      let without : g.rows ≡ 0 = rows_with f w card ∙ omega (arith, none) in
      let size : length g.flags ≡ 3 * 0 * w = (IsFilter-with w f card is).size ∙ ap (λ (n : ℕ). 3 * n * w) without in
      few_words (list_any (λ (b : Bool). b) g.flags) (length g.flags) (omega (arith, size))
]

-- adding a card leaves the filter
filter_stays : (s : CardSet) (card source : ℕ) → (set_with s card source).filter ≡ s.filter
filter_stays s card source =
    with_cases (λ (x : CardSet). x.filter ≡ s.filter) s card source (λ was. refl) (λ missing short. refl) (λ missing full. refl)

-- what the set owed is no longer owed, and else nothing changes
pub owed_added : (s : Sets) (region card : ℕ) → AreSets s → region < length s.sets
    → owed (added s region card) + owed_by (set_of s region).filter ≡ owed s
owed_added s region card are known =
    let w : ℕ = s.cards_per_region in
    let set_is : CardSet = set_of s region in
    let after : owed_by (set_after set_is w card).filter ≡ 0 =
    ap owed_by (filter_stays (letting set_is w card) card (card / w))
    ∙ owes_none set_is.filter w card are.some_cards (are.each region no_set known).filter in
    let sum = sum_by-set (λ (x : CardSet). owed_by x.filter) s.sets region (set_after set_is w card) no_set known in
    omega (arith, sum, after)
