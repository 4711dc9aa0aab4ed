-- Lists by place.
use Rattle.std.proofs.Common.{◌≡◌, ℕ, zero, suc, ◌⊎◌, List, ◌∷◌, [], ◌++◌, length, Some, refl, ap, ◌∙◌, subst, inl, inr, arith}
use Rattle.std.specs.Prelude.{slice_set, slice_get}
use Rattle.std.specs.List.{AllZip}

module _ {A B : Type 0} (R : A → B → Type 0) where
  pub AllZip-get : (xs : List A) (ys : List B) → AllZip R xs ys → (i : ℕ) (x : A) → slice_get xs i ≡ Some x
      → (y : B) × (slice_get ys i ≡ Some y) × R x y
  AllZip-get [] ys z i x e = cc
  AllZip-get (u ∷ xs) [] z i x e = absurd z
  AllZip-get (u ∷ xs) (v ∷ ys) z zero x e = let q : u ≡ x = cc in (v, refl, subst (λ k. R k v) q z.0)
  AllZip-get (u ∷ xs) (v ∷ ys) z (suc i) x e = AllZip-get xs ys z.1 i x e

  pub AllZip-get_right : (xs : List A) (ys : List B) → AllZip R xs ys → (i : ℕ) (y : B) → slice_get ys i ≡ Some y
      → (x : A) × (slice_get xs i ≡ Some x) × R x y
  AllZip-get_right [] [] z i y e = cc
  AllZip-get_right (u ∷ xs) (v ∷ ys) z zero y e = let q : v ≡ y = cc in (u, refl, subst (λ k. R u k) q z.0)
  AllZip-get_right (u ∷ xs) (v ∷ ys) z (suc i) y e = AllZip-get_right xs ys z.1 i y e
  AllZip-get_right _ _ z i y e = absurd z

  pub AllZip-set : (xs : List A) (ys : List B) → AllZip R xs ys → (i : ℕ) (x : A) (y : B) → R x y
      → AllZip R (slice_set xs i x) (slice_set ys i y)
  AllZip-set [] [] z i x y r = tt
  AllZip-set (u ∷ xs) (v ∷ ys) z zero x y r = (r, z.1)
  AllZip-set (u ∷ xs) (v ∷ ys) z (suc i) x y r = (z.0, AllZip-set xs ys z.1 i x y r)
  AllZip-set _ _ z i x y r = absurd z

  pub AllZip_map : (Q : A → B → Type 0) → ((x : A) (y : B) → R x y → Q x y) → (xs : List A) (ys : List B) → AllZip R xs ys → AllZip Q xs ys
  AllZip_map Q f [] [] z = tt
  AllZip_map Q f (u ∷ xs) (v ∷ ys) z = (f u v z.0, AllZip_map Q f xs ys z.1)
  AllZip_map Q f _ _ z = absurd z

module _ {A B C : Type 0} (R : A → B → Type 0) (Q : A → C → Type 0) (P : C → B → Type 0) where
  pub AllZip_through : ((x : A) (y : B) (w : C) → R x y → Q x w → P w y) → (xs : List A) (ys : List B) (ws : List C) → AllZip R xs ys
      → AllZip Q xs ws → AllZip P ws ys
  AllZip_through f [] [] [] z q = tt
  AllZip_through f [] (v ∷ ys) ws z q = absurd z
  AllZip_through f (u ∷ xs) [] ws z q = absurd z
  AllZip_through f (u ∷ xs) (v ∷ ys) (w ∷ ws) z q = (f u v w z.0 q.0, AllZip_through f xs ys ws z.1 q.1)
  AllZip_through f _ _ _ z q = absurd q

module _ {A : Type 0} where
  -- what is found, under another name
  pub get_as : (xs : List A) (i : ℕ) (x y : A) → slice_get xs i ≡ Some x → x ≡ y → slice_get xs i ≡ Some y
  get_as xs i x y e q = e ∙ ap Some q

  pub get-set_cases : (xs : List A) (i j : ℕ) (v w : A) → slice_get (slice_set xs i v) j ≡ Some w → (w ≡ v) ⊎ (slice_get xs j ≡ Some w)
  get-set_cases [] i j v w e = cc
  get-set_cases (x ∷ xs) zero zero v w e = inl cc
  get-set_cases (x ∷ xs) (suc i) (suc j) v w e = get-set_cases xs i j v w e
  get-set_cases (x ∷ xs) _ _ v w e = inr e

  pub get_kept-set : (xs : List A) (i j : ℕ) (v w : A) → slice_get xs j ≡ Some w → (i ≡ j) ⊎ (slice_get (slice_set xs i v) j ≡ Some w)
  get_kept-set (x ∷ xs) zero zero v w e = inl refl
  get_kept-set (x ∷ xs) (suc i) (suc j) v w e =
      elim (get_kept-set xs i j v w e) [ inl q ↦ inl (ap suc q) | inr q ↦ inr q ]
  get_kept-set _ _ _ v w e = inr e

  pub get-set_other : (xs : List A) (i j : ℕ) (v : A) → (i ≡ j → ⊥) → slice_get (slice_set xs i v) j ≡ slice_get xs j
  get-set_other (x ∷ xs) zero zero v n = absurd (n refl)
  get-set_other (x ∷ xs) (suc i) (suc j) v n = get-set_other xs i j v (λ q. n (ap suc q))
  get-set_other _ _ _ v n = refl

  pub get-set_same : (xs : List A) (i : ℕ) (v w : A) → slice_get xs i ≡ Some w → slice_get (slice_set xs i v) i ≡ Some v
  get-set_same [] i v w e = cc
  get-set_same (x ∷ xs) zero v w e = refl
  get-set_same (x ∷ xs) (suc i) v w e = get-set_same xs i v w e

  pub get_kept-append : (xs ys : List A) (w : A) (j : ℕ) → slice_get xs j ≡ Some w → slice_get (xs ++ ys) j ≡ Some w
  get_kept-append [] ys w j e = cc
  get_kept-append (x ∷ xs) ys w zero e = e
  get_kept-append (x ∷ xs) ys w (suc j) e = get_kept-append xs ys w j e

  pub get-push_last : (xs : List A) (v : A) → slice_get (xs ++ v ∷ []) (length xs) ≡ Some v
  get-push_last [] v = refl
  get-push_last (x ∷ xs) v = get-push_last xs v

module _ {A B : Type 0} (R Q : A → B → Type 0) where
  pub AllZip_map_at : (xs : List A) (ys : List B) → ((i : ℕ) (x : A) (y : B) → slice_get xs i ≡ Some x → R x y → Q x y) → AllZip R xs ys
      → AllZip Q xs ys
  AllZip_map_at [] [] f z = tt
  AllZip_map_at (u ∷ xs) (v ∷ ys) f z = (f zero u v refl z.0, AllZip_map_at xs ys (λ i x y e r. f (suc i) x y e r) z.1)
  AllZip_map_at _ _ f z = absurd z

module _ {A B : Type 0} (R : A → B → Type 0) where
  pub AllZip-append : (xs : List A) (ys : List B) (us : List A) (vs : List B) → AllZip R xs ys → AllZip R us vs
      → AllZip R (xs ++ us) (ys ++ vs)
  AllZip-append [] [] us vs z q = q
  AllZip-append (u ∷ xs) (v ∷ ys) us vs z q = (z.0, AllZip-append xs ys us vs z.1 q)
  AllZip-append _ _ us vs z q = absurd z

  pub AllZip_length : (xs : List A) (ys : List B) → AllZip R xs ys → length ys ≡ length xs
  AllZip_length [] [] z = refl
  AllZip_length (u ∷ xs) (v ∷ ys) z = ap suc (AllZip_length xs ys z.1)
  AllZip_length _ _ z = absurd z

  -- the fronts are equally long
  pub AllZip-split : (xs : List A) (ys : List B) (us : List A) (vs : List B) → length ys ≡ length xs → AllZip R (xs ++ us) (ys ++ vs)
      → AllZip R xs ys × AllZip R us vs
  AllZip-split [] [] us vs e z = (tt, z)
  AllZip-split (u ∷ xs) (v ∷ ys) us vs e z = let (p, q) = AllZip-split xs ys us vs (omega arith) z.1 in ((z.0, p), q)
  AllZip-split _ _ us vs e z = cc

module _ {A : Type 0} where
  -- what is in two lists one after the other is in one of them
  pub get-append_cases : (xs ys : List A) (i : ℕ) (x : A) → slice_get (xs ++ ys) i ≡ Some x
      → (slice_get xs i ≡ Some x) ⊎ ((j : ℕ) × (slice_get ys j ≡ Some x))
  get-append_cases [] ys i x e = inr (i, e)
  get-append_cases (u ∷ xs) ys zero x e = inl e
  get-append_cases (u ∷ xs) ys (suc i) x e = get-append_cases xs ys i x e

  pub get-append_right : (xs ys : List A) (j : ℕ) (x : A) → slice_get ys j ≡ Some x → (i : ℕ) × (slice_get (xs ++ ys) i ≡ Some x)
  get-append_right [] ys j x e = (j, e)
  get-append_right (u ∷ xs) ys j x e = let (i, is) = get-append_right xs ys j x e in (suc i, is)

  pub get-append_left : (xs ys : List A) (i : ℕ) (x : A) → slice_get xs i ≡ Some x → slice_get (xs ++ ys) i ≡ Some x
  get-append_left xs ys i x e = get_kept-append xs ys x i e

  pub get-push_cases : (xs : List A) (y x : A) (i : ℕ) → slice_get (xs ++ y ∷ []) i ≡ Some x
      → (slice_get xs i ≡ Some x) ⊎ ((i ≡ length xs) × (x ≡ y))
  get-push_cases [] y x zero e = inr (refl, cc)
  get-push_cases [] y x (suc i) e = cc
  get-push_cases (u ∷ xs) y x zero e = inl e
  get-push_cases (u ∷ xs) y x (suc i) e = elim (get-push_cases xs y x i e) [ inl q ↦ inl q | inr q ↦ inr (ap suc q.0, q.1) ]

  pub length-set : (xs : List A) (i : ℕ) (v : A) → length (slice_set xs i v) ≡ length xs
  length-set (x ∷ xs) (suc i) v = ap suc (length-set xs i v)
  length-set _ _ v = refl

  pub length-push : (xs : List A) (v : A) → length (xs ++ v ∷ []) ≡ suc (length xs)
  length-push [] v = refl
  length-push (x ∷ xs) v = ap suc (length-push xs v)
