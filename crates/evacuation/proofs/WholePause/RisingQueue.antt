-- A queue to which rising numbers are appended.
use Rattle.std.proofs.Common.{◌≡◌, ◌+◌, ◌<◌, ◌≤◌, ◌∷◌, ◌++◌, ℕ, zero, suc, false, List, [], length, get_or, cond, eqb, refl, sym, ap}
use Rattle.std.proofs.Common.{subst, add-one, arith, All, if◌then◌else◌}
use Rattle.std.specs.List.Sorted.{IsStrictlyIncreasing}
use Rattle.std.proofs.lemmas.Bool.{eq-eqb}
use Rattle.std.proofs.lemmas.List.Sums.{sum_by-cons}
use Rattle.cards.specs.Cards.{Cards, ListsDirtyOnce, is_dirty, times_in}

-- numbers below n, each above the one before
pub record RiseBelow (n : ℕ) (xs : List ℕ) : Type 0 where
  pub rising : IsStrictlyIncreasing xs
  pub below : All (λ x. x < n) xs

pub none_rise : RiseBelow 0 []
none_rise = record { rising = λ k h. absurd (omega arith); below = λ k d h. absurd (omega arith) }

abbrev Rises : List ℕ → Type 0
Rises xs = (k : ℕ) → suc k < length xs → get_or xs k 0 < get_or xs (suc k) 0

rises_push : (xs : List ℕ) (n : ℕ) → Rises xs → All (λ x. x < n) xs → Rises (xs ++ n ∷ [])
rises_push [] n r b k h = absurd (omega arith)
rises_push (x ∷ []) n r b zero h = b 0 0 (omega arith)
rises_push (x ∷ []) n r b (suc k) h = absurd (omega arith)
rises_push (x ∷ y ∷ xs) n r b zero h = r 0 (omega arith)
rises_push (x ∷ y ∷ xs) n r b (suc k) h =
    rises_push (y ∷ xs) n (λ j g. r (suc j) (omega arith)) (λ j d g. b (suc j) d (omega arith)) k (omega arith)

rising_push : (xs : List ℕ) (n : ℕ) → IsStrictlyIncreasing xs → All (λ x. x < n) xs → IsStrictlyIncreasing (xs ++ n ∷ [])
rising_push xs n r b k h =
    let rises : Rises xs = λ j g. subst (λ (m : ℕ). get_or xs j 0 < get_or xs m 0) (add-one j) (r j (omega arith)) in
    subst (λ (m : ℕ). get_or (xs ++ n ∷ []) k 0 < get_or (xs ++ n ∷ []) m 0) (sym (add-one k)) (rises_push xs n rises b k (omega arith))

below_push : (xs : List ℕ) (n : ℕ) → All (λ x. x < n) xs → All (λ x. x < n + 1) (xs ++ n ∷ [])
below_push [] n b zero d h = omega arith
below_push [] n b (suc k) d h = absurd (omega arith)
below_push (x ∷ xs) n b zero d h = let q = b 0 d (omega arith) in omega arith
below_push (x ∷ xs) n b (suc k) d h = below_push xs n (λ j e g. b (suc j) e (omega arith)) k d (omega arith)

pub rise_push : (n : ℕ) (xs : List ℕ) → RiseBelow n xs → RiseBelow (n + 1) (xs ++ n ∷ [])
rise_push n xs r = record { rising = rising_push xs n r.rising r.below; below = below_push xs n r.below }

pub rise_to : (n m : ℕ) (xs : List ℕ) → n ≤ m → RiseBelow n xs → RiseBelow m xs
rise_to n m xs le r = record { rising = r.rising; below = λ k d h. let b = r.below k d h in omega arith }

-- where no card is dirty, none is queued
pub none_queued : (t : Cards) → ListsDirtyOnce t → ((card : ℕ) → is_dirty t card ≡ false) → t.queue ≡ []
none_queued t once clean = go t.queue refl
  where
    go : (q : List ℕ) → t.queue ≡ q → t.queue ≡ []
    go [] e = e
    go (c ∷ q) e = absurd (
        let counted = once.each c in
        let none = ap {B = ℕ} (λ b. if b then 1 else 0) (clean c) in
        let here = ap (times_in c) e in
        let one = sum_by-cons (λ x. cond (eqb x c) 1 0) c q in
        let is = ap {B = ℕ} (λ b. cond b 1 0) (eq-eqb c c refl) in
        omega (arith, counted, none, here, one, is)
        )
