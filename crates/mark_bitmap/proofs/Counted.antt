-- How many flags are set, as one comes or goes.
use Rattle.regions.proofs.Common.{◌≡◌, ℕ, ◌+◌, ◌^◌, ◌<◌, Bool, true, false, List, length, replicate, set, inl, inr, sym, ap, ◌∙◌}
use Rattle.regions.proofs.Common.{arith, length-set, cases_Bool, cases_lt, get_or-replicate, length-replicate, set-get_or, sum_by-set}
use Rattle.regions.proofs.Common.{count_by-le-length, has, HasNone}
use Rattle.std.proofs.lemmas.List.{ext_get_or}
use Rattle.bit_sets.proofs.BitWords.{has_past}
use Rattle.mark_bitmap.specs.Marks.{marked_count}
use Rattle.mark_bitmap.proofs.Counts.{bit, marked_count-set}

-- one comes
pub count_fits : (flags : List Bool) (n : ℕ) → n < length flags → has flags n ≡ false → length flags < 2 ^ 32
    → marked_count flags + 1 < 2 ^ 32
count_fits flags n inside out short =
    omega (arith, marked_count-set flags n inside out, count_by-le-length (λ b. b) (set flags n true), length-set flags n true, short)

-- one goes
pub count_less : (flags : List Bool) (n : ℕ) → has flags n ≡ true → marked_count (set flags n false) + 1 ≡ marked_count flags
count_less flags n is = elim (cases_lt n (length flags)) [
  | inl inside ↦ omega (arith, sum_by-set bit flags n false false inside, ap bit is)
  | inr past ↦ absurd (let none = has_past flags n past in let some = is in cc)
]

-- one that isn't set falls
pub unset_stays : (flags : List Bool) (n : ℕ) → has flags n ≡ false → flags ≡ set flags n false
unset_stays flags n unset = sym (ap (set flags n) (sym unset) ∙ set-get_or flags n false)

-- where none is counted, none is set
pub none_counted : (flags : List Bool) → marked_count flags ≡ 0 → HasNone (has flags) 0
none_counted flags e a low = elim (cases_Bool (has flags a)) [
  | inl is ↦ absurd (omega (arith, count_less flags a is, e))
  | inr unset ↦ unset
]

-- then each flag is unset
pub all_unset : (flags : List Bool) → marked_count flags ≡ 0 → flags ≡ replicate (length flags) false
all_unset flags e =
    ext_get_or false flags (replicate (length flags) false) (sym (length-replicate {A = Bool} (length flags) false))
    (λ a h. none_counted flags e a (omega arith) ∙ sym (get_or-replicate (length flags) a false false h))
