-- Of a list whose front has the lowest numbers, a front that sums to at most a limit, and with any other of its numbers to more, is best:
-- no part of the list that is within the limit lacks more in all of a bound above each number.
use Rattle.std.proofs.Common.{◌≡◌, ◌+◌, ◌-◌, ◌*◌, ◌<◌, ◌≤◌, ◌∷◌, ◌++◌, ◌∙◌, filter, not, ℕ, subst, Bool, true, false, ltb, is_lt, Ordering}
use Rattle.std.proofs.Common.{List, [], length, take, drop, sum_by, All, IsPermutation, inl, inr, refl, sym, arith}
use Rattle.std.specs.Ordering.{nat_cmp, ordering_then}
use Rattle.std.proofs.Math.Nat.{suc-mul, add-mul, lt_of_mul-lt-mul_right, mul-add}
use Rattle.std.proofs.Math.Seq.{take-append_seam}
use Rattle.std.proofs.lemmas.Bool.{cases_lt, ltb-false, false≢true}
use Rattle.std.proofs.lemmas.List.{length-take-le, length-drop, take-append-drop, take_all}
use Rattle.std.proofs.lemmas.List.Elements.{All-head, All-tail, All-nil, All-cons, All-take, All-drop, All-same, All-weaker}
use Rattle.std.proofs.lemmas.List.Sums.{sum_by-cons, sum_by-append, sum_by-take-drop}
use Rattle.std.proofs.lemmas.List.Sorted.{sum_by-IsPermutation, IsPermutation-filter_both, All-permutation}
use Rattle.region_choice.specs.declared.LiveRow.{LiveRow}
use Rattle.region_choice.specs.Choice.{ComeFirst, IsBestWithin, IsPartOf, live_sum, freed_sum}

module _ {X : Type 0} (n : X → ℕ) where
  -- what the numbers lack of t
  abbrev lack : ℕ → List X → ℕ
  lack t xs = sum_by (λ x. t - n x) xs

  -- with what they lack, the numbers are t each
  lack_and_sum : (t : ℕ) (xs : List X) → All (λ x. n x ≤ t) xs → lack t xs + sum_by n xs ≡ length xs * t
  lack_and_sum t [] h = omega arith
  lack_and_sum t (x ∷ xs) h =
      let head : n x ≤ t = All-head (λ x. n x ≤ t) x xs h in
      omega (
        arith,
        sum_by-cons (λ x. t - n x) x xs,
        sum_by-cons n x xs,
        suc-mul (length xs) t,
        lack_and_sum t xs (All-tail (λ x. n x ≤ t) x xs h),
      )

  -- or more, where some are above t
  length_le_lack_and_sum : (t : ℕ) (xs : List X) → length xs * t ≤ lack t xs + sum_by n xs
  length_le_lack_and_sum t [] = omega arith
  length_le_lack_and_sum t (x ∷ xs) =
      omega (arith, sum_by-cons (λ x. t - n x) x xs, sum_by-cons n x xs, suc-mul (length xs) t, length_le_lack_and_sum t xs)

  no_lack : (t : ℕ) (xs : List X) → All (λ x. t ≤ n x) xs → lack t xs ≡ 0
  no_lack t [] h = refl
  no_lack t (x ∷ xs) h =
      let head : t ≤ n x = All-head (λ x. t ≤ n x) x xs h in
      omega (arith, sum_by-cons (λ x. t - n x) x xs, no_lack t xs (All-tail (λ x. t ≤ n x) x xs h))

  part_le : (f : X → ℕ) (xs part rest : List X) → IsPermutation xs (part ++ rest) → sum_by f part ≤ sum_by f xs
  part_le f xs part rest p = omega (arith, sum_by-IsPermutation f xs (part ++ rest) p, sum_by-append f part rest)

  All-part : (P : X → Type 0) (xs part rest : List X) → IsPermutation xs (part ++ rest) → All P xs → All P part
  All-part P xs part rest p all =
      let whole : All P (part ++ rest) = All-permutation P xs (part ++ rest) p all in
      All-same P part (take (length part) (part ++ rest)) (sym (take-append_seam part rest)) (All-take P (length part) (part ++ rest) whole)

  -- of some numbers with a fact, one that none is below
  lowest_of : (P : ℕ → Type 0) (x : X) (xs : List X) → All (λ y. P (n y)) (x ∷ xs) → (m : ℕ) × P m × All (λ y. m ≤ n y) (x ∷ xs)
  lowest_of P x [] all = (n x, All-head (λ y. P (n y)) x [] all, All-cons (λ y. n x ≤ n y) x [] (omega arith) (All-nil (λ y. n x ≤ n y)))
  lowest_of P x (z ∷ zs) all =
      let rest = lowest_of P z zs (All-tail (λ y. P (n y)) x (z ∷ zs) all) in
      elim (cases_lt (n x) rest.0) [
        | inl less ↦ (
          n x,
          All-head (λ y. P (n y)) x (z ∷ zs) all,
          All-cons (λ y. n x ≤ n y) x (z ∷ zs) (omega arith)
              (All-weaker (λ y. rest.0 ≤ n y) (λ y. n x ≤ n y) (λ y h. omega arith) (z ∷ zs) rest.2),
        )
        | inr le ↦ (rest.0, rest.1, All-cons (λ y. rest.0 ≤ n y) x (z ∷ zs) le rest.2)
      ]

  lowest_in : (P : ℕ → Type 0) (xs : List X) → 0 < length xs → All (λ y. P (n y)) xs → (m : ℕ) × P m × All (λ y. m ≤ n y) xs
  lowest_in P [] some all = absurd (omega arith)
  lowest_in P (x ∷ xs) some all = lowest_of P x xs all

-- m numbers within the limit are no more than the c of the front: sp and st are what the front and the others lack
-- of t, the first number after the front, lp and lt are their sums
count_le : (m c t sp st lp lt : ℕ) → sp + lp ≡ c * t → m * t ≤ st + lt → st ≤ sp → lt < lp + t → m ≤ c
count_le m c t sp st lp lt a b s d =
    let near : m * t < (c + 1) * t = omega (arith, add-mul c 1 t) in
    let below : m < c + 1 = lt_of_mul-lt-mul_right t near in
    omega arith

-- and they lack no more of t + u: gp and gt are what the front and the others lack of that
lack_le : (m e t u sp st lp lt gp gt : ℕ) → sp + lp ≡ (m + e) * t → m * t ≤ st + lt → st ≤ sp → gt + lt ≡ m * (t + u)
    → gp + lp ≡ (m + e) * (t + u) → gt ≤ gp
lack_le m e t u sp st lp lt gp gt a b s f g = omega (arith, add-mul m e t, add-mul m e (t + u), mul-add m t u, mul-add e t u)

module _ {X : Type 0} (n : X → ℕ) where
  -- a front with no number above t, the others with none below it, and no room for t, lacks at least what any part within the limit lacks
  front_lacks_most : (w limit t : ℕ) (xs ys : List X) (c : ℕ) → IsPermutation xs ys → All (λ x. n x ≤ w) xs → c ≤ length ys → t ≤ w
      → All (λ x. n x ≤ t) (take c ys) → All (λ x. t ≤ n x) (drop c ys) → limit < sum_by n (take c ys) + t
      → (other rest : List X) → IsPermutation xs (other ++ rest) → sum_by n other ≤ limit
      → sum_by (λ x. w - n x) other ≤ sum_by (λ x. w - n x) (take c ys)
  front_lacks_most w limit t xs ys c p at_most in' t_below low high full other rest q fits =
      let front : List X = take c ys in
      let m : ℕ = length other in
      let long : length front ≡ c = length-take-le c ys in' in
      let a : lack n t front + sum_by n front ≡ c * t =
      subst (λ k. lack n t front + sum_by n front ≡ k * t) long (lack_and_sum n t front low) in
      let b : m * t ≤ lack n t other + sum_by n other = length_le_lack_and_sum n t other in
      let s : lack n t other ≤ lack n t front =
      omega (
        arith,
        part_le n (λ x. t - n x) xs other rest q,
        sum_by-IsPermutation (λ x. t - n x) xs ys p,
        sum_by-take-drop (λ x. t - n x) ys c,
        no_lack n t (drop c ys) high,
      ) in
      let few : m ≤ c = count_le m c t (lack n t front) (lack n t other) (sum_by n front) (sum_by n other) a b s (omega arith) in
      let f : lack n w other + sum_by n other ≡ m * w = lack_and_sum n w other (All-part n (λ x. n x ≤ w) xs other rest q at_most) in
      let g : lack n w front + sum_by n front ≡ c * w = subst (λ k. lack n w front + sum_by n front ≡ k * w) long
      (lack_and_sum n w front (All-take (λ x. n x ≤ w) c ys (All-permutation (λ x. n x ≤ w) xs ys p at_most))) in
      let more : m + (c - m) ≡ c = omega arith in
      let wide : t + (w - t) ≡ w = omega arith in
      lack_le m (c - m) t (w - t) (lack n t front) (lack n t other) (sum_by n front) (sum_by n other) (lack n w front) (lack n w other)
      (rw more a) b s (rw wide f) (rw (more, wide) g)

-- of two rows in order the first has no greater live bound
pub le_from_order : (a b : ℕ) (o : Ordering) → is_lt (ordering_then (nat_cmp a b) o) ≡ false → b ≤ a
le_from_order a b o h =
    elim (ltb a b) as (λ v. ltb a b ≡ v → b ≤ a) [ true ↦ λ e. absurd (false≢true (sym h ∙ rw e refl)) | false ↦ λ e. ltb-false a b e ] refl

-- all rows free at least what any part of them frees
all_free_most : (w : ℕ) (xs ys : List LiveRow) (c : ℕ) → IsPermutation xs ys → length ys ≤ c → (other rest : List LiveRow)
    → IsPermutation xs (other ++ rest) → freed_sum w other ≤ freed_sum w (take c ys)
all_free_most w xs ys c p all other rest q =
    let whole : take c ys ≡ ys = take_all c ys all in
    rw whole (omega (
      arith,
      part_le (λ row. row.live_bound) (λ row. w - row.live_bound) xs other rest q,
      sum_by-IsPermutation (λ row. w - row.live_bound) xs ys p,
    ))

-- what holds of the live bound of each row after the front
record IsNoLower (w limit t : ℕ) (front : List LiveRow) : Type 0 where
  below : t ≤ w
  full : limit < live_sum front + t
  low : All (λ row. row.live_bound ≤ t) front

-- rows that come first, are within the limit, and with any of the others no more, are best
pub IsBestWithin-front : (w limit : ℕ) (xs ys : List LiveRow) (c : ℕ) → IsPermutation xs ys → ComeFirst (take c ys) (drop c ys)
    → All (λ row. row.live_bound < w) xs → c ≤ length ys → live_sum (take c ys) ≤ limit
    → All (λ row. limit < live_sum (take c ys) + row.live_bound) (drop c ys) → IsBestWithin w limit xs (take c ys)
IsBestWithin-front w limit xs ys c p first below le within full = record {
  part = record { rest = drop c ys; whole = rw take-append-drop p };
  within = within;
  most = λ other q fits. elim (cases_lt c (length ys)) [
    | inl more ↦
        let at_most : All (λ row. row.live_bound ≤ w) xs = All-weaker (λ row. row.live_bound < w) (λ row. row.live_bound ≤ w)
        (λ x h. omega arith) xs below in
        let small : All (λ row. row.live_bound ≤ w) (drop c ys) = All-drop (λ row. row.live_bound ≤ w) c ys
        (All-permutation (λ row. row.live_bound ≤ w) xs ys p at_most) in
        let each : All (λ row. IsNoLower w limit row.live_bound (take c ys)) (drop c ys) = λ k d h. record {
          below = small k d h;
          full = full k d h;
          low = λ i e l. le_from_order _ _ _ (first i e l k d h);
        } in
        let t = lowest_in (λ row. row.live_bound) (λ t. IsNoLower w limit t (take c ys)) (drop c ys)
        (omega (arith, length-drop c ys)) each in
        front_lacks_most (λ row. row.live_bound) w limit t.0 xs ys c p at_most le t.1.below t.1.low t.2 t.1.full other q.rest q.whole fits
    | inr past ↦ all_free_most w xs ys c p past other q.rest q.whole
  ];
}

-- the rows of some of the regions are some of the rows
pub IsPartOf-filter : (rows : List LiveRow) (is_in : ℕ → Bool) → IsPartOf (filter (λ row. is_in row.region) rows) rows
IsPartOf-filter rows is_in = record {
  rest = filter (λ row. not (is_in row.region)) rows;
  whole = IsPermutation-filter_both (λ row. is_in row.region) (λ row. not (is_in row.region)) (λ row. refl) rows;
}
