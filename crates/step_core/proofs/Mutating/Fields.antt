-- A pointer or a weak slot that is set, among all fields of its object.
use Rattle.std.proofs.Common.{◌≡◌, ℕ, zero, suc, ◌+◌, ◌<◌, ◌≤◌, List, [], ◌∷◌, ◌++◌, ◌∙◌, Option, Some, None, length, refl, ap, arith, inl}
use Rattle.std.proofs.Common.{inr}
use Rattle.std.specs.Prelude.{slice_get, slice_set, replicate}
use Rattle.heap_model.specs.Heap.{Stored, fields}
use Rattle.heap_model.proofs.Lists.{get-append_cases}
use Rattle.regions.proofs.Words.Fields.{with_pointer, with_weak}
use Rattle.regions.specs.Table.{Table, new_object, object_at, pointers_at, weaks_at}
use Rattle.regions.specs.Table.{fields_at, object_pointers, object_weaks, object_fields}
use Rattle.regions.specs.Shaped.{IsBareAt}
use Rattle.regions.proofs.Words.FieldAccess.{count_fields}
use Rattle.std.proofs.lemmas.List.{length-append}

set_front : (xs ys : List (Option ℕ)) (i : ℕ) (v : Option ℕ) → i < length xs → slice_set xs i v ++ ys ≡ slice_set (xs ++ ys) i v
set_front [] ys i v h = absurd (omega arith)
set_front (x ∷ xs) ys zero v h = refl
set_front (x ∷ xs) ys (suc i) v h = ap (λ k. x ∷ k) (set_front xs ys i v (omega arith))

set_back : (xs ys : List (Option ℕ)) (i j : ℕ) (v : Option ℕ) → i ≡ length xs + j → xs ++ slice_set ys j v ≡ slice_set (xs ++ ys) i v
set_back [] ys i j v e = let same : i ≡ j = omega arith in rw same refl
set_back (x ∷ xs) ys zero j v e = absurd (omega arith)
set_back (x ∷ xs) ys (suc i) j v e = ap (λ k. x ∷ k) (set_back xs ys i j v (omega arith))

pub pointer_fields : (x : Stored) (i : ℕ) (w : Option ℕ) → i < length x.pointers → fields (with_pointer x i w) ≡ slice_set (fields x) i w
pointer_fields x i w h = set_front x.pointers (x.weaks ++ x.held) i w h

pub weak_fields : (x : Stored) (i : ℕ) (w : Option ℕ) → i < length x.weaks
    → fields (with_weak x i w) ≡ slice_set (fields x) (length x.pointers + i) w
weak_fields x i w h =
    ap (λ ws. x.pointers ++ ws) (set_front x.weaks x.held i w h)
    ∙ set_back x.pointers (x.weaks ++ x.held) (length x.pointers + i) i w refl

-- pointers and weak slots are fields
pub fields_count : (t : Table) (a : ℕ) → length (pointers_at t a) + length (weaks_at t a) ≤ length (fields_at t a)
unfolding fields_at pointers_at weaks_at
fields_count t a = go (object_at t a)
  where
    go : (o : Option Stored) → length (object_pointers o) + length (object_weaks o) ≤ length (object_fields o)
    go None = omega arith
    go (Some x) = let all = length-append x.pointers (x.weaks ++ x.held) in let behind = length-append x.weaks x.held in omega arith

-- and no others are, where there are no held slots
pub fields_exact : (t : Table) (a : ℕ) → IsBareAt t a → length (fields_at t a) ≡ length (pointers_at t a) + length (weaks_at t a)
unfolding fields_at pointers_at weaks_at
fields_exact t a bare = go (object_at t a) refl
  where
    go : (o : Option Stored) → object_at t a ≡ o → length (object_fields o) ≡ length (object_pointers o) + length (object_weaks o)
    go None e = refl
    go (Some x) e =
        let none = ap (λ (hs : List (Option ℕ)). length hs) (bare x e) in omega (arith, count_fields x, none)

-- a pointer is a field
pub pointer_within : (t : Table) (a i : ℕ) → i < length (pointers_at t a) → i < length (fields_at t a)
pointer_within t a i within = let count = fields_count t a in omega (arith, count, within)

-- the fields of an object just made are nil
pub nil_get : (p i b : ℕ) → slice_get (replicate {A = Option ℕ} p None) i ≡ Some (Some b) → ⊥
nil_get zero i b e = cc
nil_get (suc p) zero b e = cc
nil_get (suc p) (suc i) b e = nil_get p i b e

pub nil_fields : (name p weak d i b : ℕ) → slice_get (fields (new_object name p weak d)) i ≡ Some (Some b) → ⊥
nil_fields name p weak d i b e = elim (get-append_cases (replicate p None) (replicate weak None ++ []) i (Some b) e) [
  | inl q ↦ nil_get p i b q
  | inr q ↦ elim (get-append_cases (replicate weak None) [] q.0 (Some b) q.1) [ inl r ↦ nil_get weak q.0 b r | inr r ↦ cc ]
]
