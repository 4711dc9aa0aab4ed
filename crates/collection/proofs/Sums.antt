-- Sums over regions.
use Rattle.std.proofs.Common.{◌≡◌, ◌≢◌, ◌+◌, ◌*◌, ◌<◌, ◌≤◌, ◌∷◌, ℕ, suc, zero, Bool, true, false, List, [], All, sum_by, count_by, cond}
use Rattle.std.proofs.Common.{inl, inr, refl, ap, subst, arith, ◌||◌, ◌==◌, if◌then◌else◌}
use Rattle.std.specs.List.{list_any}
use Rattle.std.proofs.lemmas.Bool.{cases_eq, cases_Bool, eq-eqb, eqb-true}
use Rattle.std.proofs.lemmas.Bool.Decides.{eqb_tells}
use Rattle.std.proofs.lemmas.List.Elements.{All-head, All-tail}
use Rattle.std.proofs.lemmas.List.Sums.{sum_by-cons}
use Rattle.region_choice.specs.declared.LiveRow.{LiveRow}
use Rattle.evacuation.specs.Evacuates.{is_chosen}
use Rattle.step_core.specs.Measures.{sum_below}

pub sum_same : (f g : ℕ → ℕ) (n : ℕ) → ((k : ℕ) → k < n → f k ≡ g k) → sum_below f n ≡ sum_below g n
sum_same f g zero e = refl
sum_same f g (suc n) e =
    let a = sum_same f g n (λ k h. e k (omega arith)) in
    let b = e n (omega arith) in
    omega (arith, a, b)

pub sum_le : (f g : ℕ → ℕ) (n : ℕ) → ((k : ℕ) → k < n → f k ≤ g k) → sum_below f n ≤ sum_below g n
sum_le f g zero e = omega arith
sum_le f g (suc n) e =
    let a = sum_le f g n (λ k h. e k (omega arith)) in
    let b = e n (omega arith) in
    omega (arith, a, b)

pub sum_plus : (f g : ℕ → ℕ) (n : ℕ) → sum_below (λ k. f k + g k) n ≡ sum_below f n + sum_below g n
sum_plus f g zero = refl
sum_plus f g (suc n) = let a = sum_plus f g n in omega (arith, a)

pub sum_times : (f : ℕ → ℕ) (m n : ℕ) → sum_below (λ k. f k * m) n ≡ sum_below f n * m
sum_times f m zero = omega arith
sum_times f m (suc n) = let a = sum_times f m n in omega (arith, a)

pub sum_none : (f : ℕ → ℕ) (n : ℕ) → ((k : ℕ) → k < n → f k ≡ 0) → sum_below f n ≡ 0
sum_none f zero e = refl
sum_none f (suc n) e = let a = sum_none f n (λ k h. e k (omega arith)) in let b = e n (omega arith) in omega (arith, a, b)

pub if_true : (b : Bool) (m : ℕ) → b ≡ true → (if b then m else 0) ≡ m
if_true true m e = refl
if_true false m e = absurd cc

pub if_false : (b : Bool) (m : ℕ) → b ≡ false → (if b then m else 0) ≡ 0
if_false true m e = absurd cc
if_false false m e = refl

not_eq : (r k : ℕ) → r ≢ k → (r == k) ≡ false
not_eq r k n = elim (eqb_tells r k) [ inl q ↦ absurd (n q.1) | inr q ↦ q.0 ]

pub sum_only : (f : ℕ → ℕ) (r n : ℕ) → r < n → sum_below (λ k. if r == k then f k else 0) n ≡ f r
sum_only f r zero h = absurd (omega arith)
sum_only f r (suc n) h = elim (cases_eq r n) [
  | inl e ↦
      (let a = sum_none (λ k. if r == k then f k else 0) n (λ k lt. if_false (r == k) (f k) (not_eq r k (λ q. omega (arith, e, lt, q)))) in
      let b = if_true (r == n) (f n) (eq-eqb r n e) in
      let c = ap f e in
      omega (arith, a, b, c))
  | inr ne ↦
      (let a = sum_only f r n (omega (arith, h, ne)) in
      let b = if_false (r == n) (f n) (not_eq r n ne) in
      omega (arith, a, b))
]

-- where a flag is set there is one to count
some_counted : (p : LiveRow → Bool) (rows : List LiveRow) → list_any p rows ≡ true → 1 ≤ count_by p rows
some_counted p [] e = absurd cc
some_counted p (r ∷ rs) e = elim (cases_Bool (p r)) [
  | inl t ↦ (let a = sum_by-cons (λ (x : LiveRow). cond (p x) 1 0) r rs in let b = ap {B = ℕ} (λ (b : Bool). cond b 1 0) t in omega
      (arith, a, b))
  | inr f ↦ (let a = sum_by-cons (λ (x : LiveRow). cond (p x) 1 0) r rs in
      let q : list_any p rs ≡ true = rw f at e in
      let b = some_counted p rs q in
      omega (arith, a, b))
]

abbrev pub CountsOnce : List LiveRow → Type 0
CountsOnce rows = (k : ℕ) → count_by (λ row. row.region == k) rows ≤ 1

not_again : (r : LiveRow) (rs : List LiveRow) → CountsOnce (r ∷ rs) → is_chosen rs r.region ≡ false
not_again r rs once = elim (cases_Bool (is_chosen rs r.region)) [
  | inl t ↦ (let a = sum_by-cons (λ (x : LiveRow). cond (x.region == r.region) 1 0) r rs in
      let b = ap {B = ℕ} (λ (b : Bool). cond b 1 0) (eq-eqb r.region r.region refl) in
      let c = some_counted (λ row. row.region == r.region) rs t in
      let d = once r.region in
      absurd (omega (arith, a, b, c, d)))
  | inr f ↦ f
]

fewer : (r : LiveRow) (rs : List LiveRow) → CountsOnce (r ∷ rs) → CountsOnce rs
fewer r rs once k =
    let a = sum_by-cons (λ (x : LiveRow). cond (x.region == k) 1 0) r rs in
    let d = once k in
    omega (arith, a, d)

-- one flag or the other
either_sum : (a b : Bool) (m : ℕ) → (a ≡ true → b ≡ false) → (if (a || b) then m else 0) ≡ (if a then m else 0) + (if b then m else 0)
either_sum true b m h = let e = if_false b m (h refl) in omega (arith, e)
either_sum false b m h = omega arith

-- a sum over the regions of rows is one over the rows
pub chosen_sum : (f : ℕ → ℕ) (rows : List LiveRow) (n : ℕ) → All (λ row. row.region < n) rows → CountsOnce rows
    → sum_below (λ k. if is_chosen rows k then f k else 0) n ≡ sum_by (λ row. f row.region) rows
chosen_sum f [] n known once = sum_none (λ k. if is_chosen [] k then f k else 0) n (λ k h. refl)
chosen_sum f (r ∷ rs) n known once =
    let a = sum_same (λ k. if is_chosen (r ∷ rs) k then f k else 0)
    (λ k. (if r.region == k then f k else 0) + (if is_chosen rs k then f k else 0)) n
    (λ k h. either_sum (r.region == k) (is_chosen rs k) (f k)
    (λ e. subst (λ (j : ℕ). is_chosen rs j ≡ false) (eqb-true r.region k e) (not_again r rs once))) in
    let b = sum_plus (λ k. if r.region == k then f k else 0) (λ k. if is_chosen rs k then f k else 0) n in
    let c = sum_only f r.region n (All-head (λ (row : LiveRow). row.region < n) r rs known) in
    let d = chosen_sum f rs n (All-tail (λ (row : LiveRow). row.region < n) r rs known) (fewer r rs once) in
    let e = sum_by-cons (λ (row : LiveRow). f row.region) r rs in
    omega (arith, a, b, c, d, e)
