-- Free regions side by side, one by one.
use Rattle.std.proofs.Common.{◌≡◌, ◌≢◌, ◌+◌, ◌-◌, ◌<◌, ◌≤◌, ◌∙◌, ℕ, zero, suc, Bool, true, false, List, length, drop, get_or}
use Rattle.std.proofs.Common.{refl, ap, arith, drop-cons}
use Rattle.std.proofs.lemmas.List.{drop_all}
use Rattle.regions.specs.Table.{Table, Region, Free, front_count, kind_of, nth_region, region_kind}
use Rattle.heap_view.specs.Folds.{is_free_at, is_free_kind, is_below_free, free_run}

abbrev free : Region → Bool
free r = is_free_kind (region_kind r)

-- ---- the count from a region on
front_more : (xs : List Region) (k n : ℕ) → k < length xs → free (get_or xs k Free) ≡ true → n ≡ k + 1
    → front_count free (drop k xs) ≡ suc (front_count free (drop n xs))
front_more xs k n h f e =
    let at : suc k ≡ n = omega arith in
    rw (drop-cons xs k Free h, f, ← at) refl

front_stops : (xs : List Region) (k : ℕ) → k < length xs → free (get_or xs k Free) ≡ false → front_count free (drop k xs) ≡ 0
front_stops xs k h f = rw (drop-cons xs k Free h, f) refl

front_past : (xs : List Region) (k : ℕ) → length xs ≤ k → front_count free (drop k xs) ≡ 0
front_past xs k past = ap (front_count free) (drop_all k xs past)

-- what the count knows: from the first region up to another all are free
pub record IsCounted (t : Table) (from number : ℕ) : Type 0 where
  pub order : from ≤ number
  pub run : free_run t from ≡ number - from + free_run t number

pub none_counted : (t : Table) (from : ℕ) → IsCounted t from from
none_counted t from = record { order = omega arith; run = omega arith }

pub one_counted : (t : Table) (from number : ℕ) → number < length t.regions → is_free_at t number ≡ true → IsCounted t from number
    → IsCounted t from (number + 1)
unfolding kind_of nth_region
one_counted t from number within free known =
    let more = front_more t.regions number (number + 1) within free refl in
    record {
      order = let o = known.order in omega (arith, o);
      run = let o = known.order in let r = known.run in omega (arith, o, r, more);
    }

pub all_counted : (t : Table) (from number : ℕ) → number < length t.regions → is_free_at t number ≡ false → IsCounted t from number
    → number - from ≡ free_run t from
unfolding kind_of nth_region
all_counted t from number within other known =
    let none = front_stops t.regions number within other in
    let r = known.run in omega (arith, r, none)

pub end_counted : (t : Table) (from number count : ℕ) → count ≡ length t.regions → count ≤ number → number ≤ count
    → IsCounted t from number → count - from ≡ free_run t from
end_counted t from number count all past within known =
    let none = front_past t.regions number (omega (arith, all, past)) in
    let r = known.run in omega (arith, r, none, past, within)

-- ---- the region below one
pub below_first : (t : Table) (k n : ℕ) → n ≡ k → n ≡ 0 → false ≡ is_below_free t k
below_first t zero n e z = refl
below_first t (suc k) n e z = absurd (omega (arith, e, z))

pub below_other : (t : Table) (k n m : ℕ) (b : Bool) → n ≡ k → n ≢ 0 → m ≡ n - 1 → b ≡ is_free_at t m → b ≡ is_below_free t k
below_other t zero n m b e some one known = absurd (some e)
below_other t (suc k) n m b e some one known = known ∙ ap (is_free_at t) (omega (arith, e, one))
