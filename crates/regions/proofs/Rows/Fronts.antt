-- How many elements pass at the front of a list, and the first place where enough do.
use Rattle.regions.proofs.Common.{◌≡◌, ◌<◌, ◌≤◌, ◌∷◌, ℕ, zero, suc, Bool, true, false, Option, Some, None, List, [], length, drop, get_or}
use Rattle.regions.proofs.Common.{refl, arith, cond, inl, inr, leb_tells, front_count, behind_one, first_run}

pub front_le : {A : Type 0} (p : A → Bool) (xs : List A) → front_count p xs ≤ length xs
front_le p [] = omega arith
front_le p (x ∷ xs) = go (p x) (front_le p xs)
  where
    go : (b : Bool) → front_count p xs ≤ length xs → cond b (suc (front_count p xs)) 0 ≤ suc (length xs)
    go true h = omega arith
    go false h = omega arith

-- each element of the front passes
pub front_passes : {A : Type 0} (p : A → Bool) (xs : List A) (d : A) (j : ℕ) → j < front_count p xs → p (get_or xs j d) ≡ true
front_passes p [] d j h = absurd (omega arith)
front_passes {A} p (x ∷ xs) d j h = go (p x) refl j h (λ i l. front_passes p xs d i l)
  where
    go : (b : Bool) → p x ≡ b → (j : ℕ) → j < cond b (suc (front_count p xs)) 0
        → ((i : ℕ) → i < front_count p xs → p (get_or xs i d) ≡ true) → p (get_or (x ∷ xs) j d) ≡ true
    go false e j l k = absurd (omega arith)
    go true e zero l k = e
    go true e (suc j) l k = k j (omega arith)

-- a place that is found is one of the list's, and enough pass from there on
pub run_passes : {A : Type 0} (p : A → Bool) (m k : ℕ) (xs : List A) → first_run p m xs ≡ Some k
    → (k < length xs) × (m ≤ front_count p (drop k xs))
run_passes p m k [] h = cc
run_passes {A} p m k (x ∷ xs) h =
    elim (leb_tells m (front_count p (x ∷ xs))) [
      | inl q ↦
          let e : Some 0 ≡ Some k = rw q.0 at h in
          let z : 0 ≡ k = cc in
          rw (← z) (omega arith, q.1)
      | inr q ↦ next k (first_run p m xs) refl (rw q.0 at h) (λ j e. run_passes p m j xs e)
    ]
  where
    next : (k : ℕ) (o : Option ℕ) → first_run p m xs ≡ o → behind_one o ≡ Some k
        → ((j : ℕ) → first_run p m xs ≡ Some j → (j < length xs) × (m ≤ front_count p (drop j xs)))
        → (k < length (x ∷ xs)) × (m ≤ front_count p (drop k (x ∷ xs)))
    next k None e f g = cc
    next zero (Some j) e f g = cc
    next (suc k) (Some j) e f g =
        let z : j ≡ k = cc in
        let i = g j e in
        rw (← z) (omega (arith, i.0), i.1)
