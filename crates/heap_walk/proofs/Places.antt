-- A buffer of steps, place by place.
use Rattle.std.proofs.Common.{◌≡◌, ℕ, zero, suc, ◌<◌, List, [], ◌∷◌, ◌++◌, Some, length, take, map}
use Rattle.std.proofs.Common.{refl, ap, arith}
use Rattle.std.specs.Prelude.{slice_get, slice_set}
use Rattle.heap_walk.specs.Searching.{name_at, name_if}
use Rattle.heap_walk.specs.declared.holders.Holder.{Holder}

pub other_place : {A : Type 0} (q : List A) (x y : ℕ) (h : A) → (x ≡ y → ⊥) → slice_get (slice_set q x h) y ≡ slice_get q y
other_place [] x y h other = refl
other_place (z ∷ q) zero zero h other = absurd (other refl)
other_place (z ∷ q) zero (suc y) h other = refl
other_place (z ∷ q) (suc x) zero h other = refl
other_place (z ∷ q) (suc x) (suc y) h other = other_place q x y h (λ e. other (ap suc e))

pub this_place : {A : Type 0} (q : List A) (x : ℕ) (h : A) → x < length q → slice_get (slice_set q x h) x ≡ Some h
this_place [] x h lt = absurd (omega arith)
this_place (z ∷ q) zero h lt = refl
this_place (z ∷ q) (suc x) h lt = this_place q x h (omega arith)

pub set_length : {A : Type 0} (q : List A) (x : ℕ) (h : A) → length (slice_set q x h) ≡ length q
set_length [] x h = refl
set_length (z ∷ q) zero h = refl
set_length (z ∷ q) (suc x) h = ap suc (set_length q x h)

-- the name of the step that is put there
pub this_name : (q : List Holder) (x : ℕ) (h : Holder) → x < length q → name_at (slice_set q x h) x ≡ Some h.name
this_name q x h lt = ap name_if (this_place q x h lt)

pub other_name : (q : List Holder) (x y : ℕ) (h : Holder) → (x ≡ y → ⊥) → name_at (slice_set q x h) y ≡ name_at q y
other_name q x y h other = ap name_if (other_place q x y h other)

pub take_more : {A : Type 0} (q : List A) (k n : ℕ) (h : A) → k < length q → n ≡ suc k → take n (slice_set q k h) ≡ take k q ++ h ∷ []
take_more [] k n h lt e = absurd (omega arith)
take_more (z ∷ q) zero zero h lt e = absurd (omega arith)
take_more (z ∷ q) zero (suc n) h lt e = ap (λ (m : ℕ). h ∷ take m q) (let none : n ≡ zero = omega arith in none)
take_more (z ∷ q) (suc k) zero h lt e = absurd (omega arith)
take_more {A = A} (z ∷ q) (suc k) (suc n) h lt e = ap (λ (l : List A). z ∷ l) (take_more q k n h (omega arith) (omega arith))

-- a place of the first names is one of the buffer
pub named_in : (q : List Holder) (room i m : ℕ) → slice_get (map (λ (h : Holder). h.name) (take room q)) i ≡ Some m
    → (i < room) × (name_at q i ≡ Some m)
named_in [] zero i m e = absurd (cc)
named_in [] (suc room) i m e = absurd (cc)
named_in (h ∷ q) zero i m e = absurd (cc)
named_in (h ∷ q) (suc room) zero m e = (omega arith, e)
named_in (h ∷ q) (suc room) (suc i) m e = let (lt, is) = named_in q room i m e in (omega arith, is)
