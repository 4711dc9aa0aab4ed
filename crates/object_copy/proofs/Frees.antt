-- Free regions: how many there are, and the lowest.
use Rattle.std.proofs.Common.{◌≡◌, ◌≢◌, ℕ, suc, ◌+◌, ◌<◌, List, [], ◌∷◌, Some, None, length, get_or, refl, sym, ap, ◌∙◌, arith, ltb, cond}
use Rattle.std.specs.List.{position_or_len}
use Rattle.std.proofs.lemmas.Bool.{lt-ltb}
use Rattle.std.proofs.lemmas.List.Quantifiers.{position-Some}
use Rattle.std.proofs.lemmas.List.Recursion.{is_count_by, is_position_or_len}
use Rattle.std.proofs.lemmas.List.Sums.{sum_by-set}
use Rattle.regions.specs.Table.{Region, Free, Ordinary, First, Rest, Table, is_free, first_free}
use Rattle.regions.specs.Table.{taken, kind_of, region_kind, nth_region, free_count, released, released_as}
use Rattle.regions.specs.declared.row.Kind.TheVariants as kinds
use Rattle.regions.specs.Rows.{kind_is_free}

abbrev frees : List Region → ℕ
frees [] = 0
frees (r ∷ rs) = cond (is_free r) (1 + frees rs) (frees rs)

abbrev first : List Region → ℕ
first [] = 0
first (r ∷ rs) = cond (is_free r) 0 (1 + first rs)

count_step : (r : Region) (rs : List Region) → frees (r ∷ rs) ≡ cond (is_free r) (1 + frees rs) (frees rs)
count_step r rs = refl

first_step : (r : Region) (rs : List Region) → first (r ∷ rs) ≡ cond (is_free r) 0 (1 + first rs)
first_step r rs = refl

within : (rs : List Region) → 0 < frees rs → first rs < length rs
within [] h = absurd (omega arith)
within (Free ∷ rs) h = omega arith
within (Ordinary ts ∷ rs) h = let k = within rs h in omega arith
within (First s ∷ rs) h = let k = within rs h in omega arith
within (Rest n ∷ rs) h = let k = within rs h in omega arith

-- where regions are free there is a lowest one
pub some_free : (t : Table) → 0 < free_count t → first_free t ≢ None
some_free t h e =
    let c = is_count_by frees is_free refl count_step t.regions in
    let p = is_position_or_len first is_free refl first_step t.regions in
    let k = within t.regions (omega arith) in
    let lt : position_or_len is_free t.regions < length t.regions = omega arith in
    let q = lt-ltb _ _ lt in
    let e' : cond (ltb (position_or_len is_free t.regions) (length t.regions)) (Some (position_or_len is_free t.regions)) None ≡ None = e in
    let e'' : Some (position_or_len is_free t.regions) ≡ None = rw q at e' in
    cc

abbrev bit : Region → ℕ
bit r = cond (is_free r) 1 0

-- one free region less
pub fewer_free : (t : Table) (k : ℕ) → first_free t ≡ Some k → free_count (taken t (Some k)) + 1 ≡ free_count t
fewer_free t k e =
    let p = position-Some is_free t.regions k Free e in
    omega (arith, sum_by-set bit t.regions k (Ordinary []) Free p.0, ap {B = ℕ} (λ b. cond b 1 0) p.1)

-- whether a region is free is told by its kind
by_kind : (r : Region) → is_free r ≡ kind_is_free (region_kind r)
by_kind Free = refl
by_kind (Ordinary ts) = refl
by_kind (First s) = refl
by_kind (Rest n) = refl

pub free_by_kind : (t : Table) (k : ℕ) → is_free (nth_region t k) ≡ kind_is_free (kind_of t k)
unfolding kind_of
free_by_kind t k = by_kind (nth_region t k)

same_frees : (rs rs' : List Region) → length rs' ≡ length rs
    → ((k : ℕ) → region_kind (get_or rs' k Free) ≡ region_kind (get_or rs k Free)) → frees rs' ≡ frees rs
same_frees [] [] n f = refl
same_frees [] (r ∷ rs) n f = absurd (omega arith)
same_frees (r ∷ rs) [] n f = absurd (omega arith)
same_frees (r ∷ rs) (r' ∷ rs') n f =
    let e = same_frees rs rs' (omega arith) (λ k. f (suc k)) in
    let b : is_free r' ≡ is_free r = by_kind r' ∙ ap kind_is_free (f 0) ∙ sym (by_kind r) in
    rw (b, e) refl

-- as many are free where all are of the same kinds
pub same_free : (t t' : Table) → length t'.regions ≡ length t.regions
    → ((k : ℕ) → kind_of t' k ≡ kind_of t k) → free_count t' ≡ free_count t
unfolding kind_of nth_region
same_free t t' n f =
    let c = is_count_by frees is_free refl count_step t.regions in
    let c' = is_count_by frees is_free refl count_step t'.regions in
    sym c' ∙ same_frees t.regions t'.regions n f ∙ c

ordinary_bit : (r : Region) → region_kind r ≡ kinds.Ordinary → bit r ≡ 0
ordinary_bit Free e = absurd cc
ordinary_bit (Ordinary ts) e = refl
ordinary_bit _ e = absurd cc

-- one free region more
pub released_free : (t : Table) (k : ℕ) → k < length t.regions → kind_of t k ≡ kinds.Ordinary
    → free_count (released t k) ≡ free_count t + 1
unfolding kind_of nth_region released
released_free t k h e = go (nth_region t k) refl
  where
    go : (r : Region) → nth_region t k ≡ r → free_count (released_as r t k) ≡ free_count t + 1
    go Free q = absurd (let f = ap region_kind q in cc)
    go (Ordinary ts) q =
        let z = ordinary_bit (get_or t.regions k Free) e in
        omega (arith, sum_by-set bit t.regions k Free Free h, z)
    go (First s) q = absurd (let f = ap region_kind q in cc)
    go (Rest n) q = absurd (let f = ap region_kind q in cc)
