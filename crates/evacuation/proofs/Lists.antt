-- Lists.
use Rattle.std.proofs.Common.{◌≡◌, ℕ, suc, zero, ◌<◌, ◌⊎◌, List, [], ◌∷◌, ◌++◌, Option, Some, None, length, refl, ap, inl, inr, arith}
use Rattle.std.specs.Prelude.{slice_get}

pub get_within : (xs : List ℕ) (n b : ℕ) → slice_get xs n ≡ Some b → n < length xs
get_within [] n b e = cc
get_within (x ∷ xs) zero b e = omega arith
get_within (x ∷ xs) (suc n) b e = let k = get_within xs n b e in omega arith

pub get_below : (xs : List (Option ℕ)) (j : ℕ) (v : Option ℕ) → slice_get xs j ≡ Some v → j < length xs
get_below [] j v e = cc
get_below (x ∷ xs) zero v e = omega arith
get_below (x ∷ xs) (suc j) v e = let k = get_below xs j v e in omega arith

-- there is none at n, so each that there is comes before
pub get_before : (xs : List ℕ) (n m b : ℕ) → slice_get xs n ≡ None → slice_get xs m ≡ Some b → m < n
get_before [] n m b e f = cc
get_before (x ∷ xs) zero m b e f = cc
get_before (x ∷ xs) (suc n) zero b e f = omega arith
get_before (x ∷ xs) (suc n) (suc m) b e f = let k = get_before xs n m b e f in omega arith

pub push_place : (xs : List ℕ) (v w j : ℕ) → slice_get (xs ++ v ∷ []) j ≡ Some w → ((j ≡ length xs) × (w ≡ v)) ⊎ (slice_get xs j ≡ Some w)
push_place [] v w zero e = inl (refl, cc)
push_place [] v w (suc j) e = cc
push_place (x ∷ xs) v w zero e = inr e
push_place (x ∷ xs) v w (suc j) e = elim (push_place xs v w j e) [ inl q ↦ inl (ap suc q.0, q.1) | inr q ↦ inr q ]
