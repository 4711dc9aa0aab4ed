-- How many regions are free, ordinary, or of runs.
use Rattle.std.proofs.Common.{◌≡◌, ◌+◌, ◌*◌, ◌/◌, ◌<◌, ◌≤◌}
use Rattle.std.proofs.Common.{ℕ, suc, zero, cond, List, length, get_or, take, sum_by, inl, inr, refl, ap, arith}
use Rattle.std.proofs.lemmas.Bool.{cases_lt}
use Rattle.std.proofs.Math.Nat.{lt_of_mul-lt-mul_right}
use Rattle.std.proofs.lemmas.List.{take_all}
use Rattle.std.proofs.lemmas.List.Sums.{sum_by_more}
use Rattle.regions.specs.Table.{Region, Free, Table, is_free, kind_of, nth_region, region_kind, free_count}
use Rattle.regions.specs.declared.row.Kind.{Kind}
use Rattle.regions.specs.declared.row.Kind.TheVariants as kinds
use Rattle.step_core.specs.Measures.{sum_below}
use Rattle.collection.specs.Space.{ordinary_one, run_one, ordinary_count, run_count}
use Rattle.collection.proofs.Sums.{sum_same, sum_le, sum_plus}

abbrev pub free_one : Kind → ℕ
free_one kinds.Free = 1
free_one _ = 0

bit : Region → ℕ
bit r = cond (is_free r) 1 0

bit_kind : (r : Region) → cond (is_free r) 1 0 ≡ free_one (region_kind r)
bit_kind Free = refl
bit_kind _ = refl

front_sum : (f : Region → ℕ) (rs : List Region) (n : ℕ) → n ≤ length rs → sum_below (λ k. f (get_or rs k Free)) n ≡ sum_by f (take n rs)
front_sum f rs zero h = refl
front_sum f rs (suc n) h =
    let a = front_sum f rs n (omega arith) in
    let b = sum_by_more f rs n Free (omega arith) in
    let e : n + 1 ≡ suc n = omega arith in
    let d = ap (λ (m : ℕ). sum_by f (take m rs)) e in
    omega (arith, a, b, d)

pub free_sum : (t : Table) → free_count t ≡ sum_below (λ k. free_one (kind_of t k)) (length t.regions)
unfolding kind_of nth_region
free_sum t =
    let a = front_sum (λ r. cond (is_free r) 1 0) t.regions (length t.regions) (omega arith) in
    let b = ap (λ (rs : List Region). sum_by (λ r. cond (is_free r) 1 0) rs) (take_all (length t.regions) t.regions (omega arith)) in
    let d = sum_same (λ k. cond (is_free (get_or t.regions k Free)) 1 0) (λ k. free_one (region_kind (get_or t.regions k Free)))
    (length t.regions) (λ k h. bit_kind (get_or t.regions k Free)) in
    omega (arith, a, b, d)

one_each : (k : Kind) → ordinary_one k + run_one k + free_one k ≡ 1
one_each kinds.Free = refl
one_each _ = refl

all_ones : (n : ℕ) → sum_below (λ k. 1) n ≡ n
all_ones zero = refl
all_ones (suc n) = let a = all_ones n in omega (arith, a)

-- each region is free, ordinary, or one of a run
pub count_all : (t : Table) → ordinary_count t + run_count t + free_count t ≡ length t.regions
count_all t =
    let a = sum_same (λ k. ordinary_one (kind_of t k) + run_one (kind_of t k) + free_one (kind_of t k)) (λ k. 1) (length t.regions)
    (λ k h. one_each (kind_of t k)) in
    let b = sum_plus (λ k. ordinary_one (kind_of t k) + run_one (kind_of t k)) (λ k. free_one (kind_of t k)) (length t.regions) in
    let d = sum_plus (λ k. ordinary_one (kind_of t k)) (λ k. run_one (kind_of t k)) (length t.regions) in
    let e = all_ones (length t.regions) in
    let f = free_sum t in
    omega (arith, a, b, d, e, f)

-- no fewer regions are free where each free one stays free
pub more_free : (t t' : Table) → length t'.regions ≡ length t.regions
    → ((k : ℕ) → kind_of t k ≡ kinds.Free → kind_of t' k ≡ kinds.Free) → free_count t ≤ free_count t'
more_free t t' e stays =
    let a = sum_le (λ k. free_one (kind_of t k)) (λ k. free_one (kind_of t' k)) (length t.regions) (λ k h. each k (kind_of t k) refl) in
    let b = free_sum t in
    let d = free_sum t' in
    let f = ap (sum_below (λ k. free_one (kind_of t' k))) e in
    omega (arith, a, b, d, f)
  where
    each : (k : ℕ) (o : Kind) → kind_of t k ≡ o → free_one (kind_of t k) ≤ free_one (kind_of t' k)
    each k kinds.Free q = let a = ap free_one q in let b = ap free_one (stays k q) in omega (arith, a, b)
    each k _ q = let a = ap free_one q in omega (arith, a)

-- ---- free regions after a pause
-- d of them were taken for w words, at most s, which is at most half of f regions of r words; k were reclaimed
pub record Taken (r f k d w s : ℕ) : Type 0 where
  pub positive : 0 < r
  pub within : w ≤ s
  pub limit : s ≤ f * r / 2
  pub empty : k ≡ 0 → s ≡ 0
  pub none : w ≡ 0 → d ≡ 0
  pub full : 2 ≤ d → d * r < 2 * w

fewer : (r f k d w s : ℕ) → Taken r f k d w s → 2 ≤ d → d < f
fewer r f k d w s t two =
    let a = t.full two in
    let b = t.within in
    let c = t.limit in
    lt_of_mul-lt-mul_right r (omega (arith, a, b, c))

pub some_taken : (r f k d w s : ℕ) → Taken r f k d w s → 0 < d → 0 < k
some_taken r f k d w s t h = elim (cases_lt 0 k) [
  | inl p ↦ p
  | inr z ↦ (let a = t.empty (omega arith) in let b = t.within in let e = t.none (omega (arith, a, b)) in absurd (omega (arith, e, h)))
]

-- two stay free
pub two_stay : (r f f' k d w s : ℕ) → Taken r f k d w s → f' + d ≡ f + k → 2 ≤ f → 2 ≤ f'
two_stay r f f' k d w s t e two = elim (cases_lt 1 d) [
  | inl more ↦ (let a = fewer r f k d w s t (omega arith) in let b = some_taken r f k d w s t (omega arith) in omega (arith, a, b, e))
  | inr less ↦ elim (cases_lt 0 d) [
    | inl one ↦ (let b = some_taken r f k d w s t one in omega (arith, b, e, less, two))
    | inr zero' ↦ omega (arith, e, zero', two)
  ]
]
