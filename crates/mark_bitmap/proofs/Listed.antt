-- The marked addresses as a list.
use Rattle.regions.proofs.Common.{◌≡◌, ℕ, zero, suc, ◌+◌, ◌≤◌, Bool, true, false, List, [], ◌∷◌, Some, length, refl, ap, arith, slice_get}
use Rattle.regions.proofs.Common.{if◌then◌else◌, sum_by-cons}
use Rattle.heap_model.specs.Count.{ListsMarked}
use Rattle.mark_bitmap.specs.Marks.{is_marked, marked_count}

-- the marked addresses, the first flag being that of i
abbrev pub marked_from : ℕ → List Bool → List ℕ
marked_from i [] = []
marked_from i (true ∷ marks) = i ∷ marked_from (i + 1) marks
marked_from i (false ∷ marks) = marked_from (i + 1) marks

at_least : (marks : List Bool) (i j a : ℕ) → slice_get (marked_from i marks) j ≡ Some a → i ≤ a
at_least [] i j a h = cc
at_least (true ∷ marks) i zero a h = let e : i ≡ a = cc in omega (arith, e)
at_least (true ∷ marks) i (suc j) a h = omega (arith, at_least marks (i + 1) j a h)
at_least (false ∷ marks) i j a h = omega (arith, at_least marks (i + 1) j a h)

only_marked : (marks : List Bool) (i j a k : ℕ) → i + k ≡ a → slice_get (marked_from i marks) j ≡ Some a → is_marked marks k ≡ true
only_marked [] i j a k e h = cc
only_marked (true ∷ marks) i j a zero e h = refl
only_marked (true ∷ marks) i zero a (suc k) e h = absurd (let f : i ≡ a = cc in omega (arith, e, f))
only_marked (true ∷ marks) i (suc j) a (suc k) e h = only_marked marks (i + 1) j a k (omega (arith, e)) h
only_marked (false ∷ marks) i j a zero e h = absurd (omega (arith, e, at_least marks (i + 1) j a h))
only_marked (false ∷ marks) i j a (suc k) e h = only_marked marks (i + 1) j a k (omega (arith, e)) h

each_marked : (marks : List Bool) (i k a : ℕ) → i + k ≡ a → is_marked marks k ≡ true
    → (j : ℕ) × (slice_get (marked_from i marks) j ≡ Some a)
each_marked (true ∷ marks) i zero a e h = (zero, ap Some (omega (arith, e)))
each_marked (true ∷ marks) i (suc k) a e h =
    let r = each_marked marks (i + 1) k a (omega (arith, e)) h in
    (suc r.0, r.1)
each_marked (false ∷ marks) i (suc k) a e h = each_marked marks (i + 1) k a (omega (arith, e)) h
each_marked _ i _ a e h = cc

distinct : (marks : List Bool) (i j l a : ℕ) → slice_get (marked_from i marks) j ≡ Some a
    → slice_get (marked_from i marks) l ≡ Some a → j ≡ l
distinct [] i j l a h k = cc
distinct (true ∷ marks) i zero zero a h k = refl
distinct (true ∷ marks) i zero (suc l) a h k = absurd (let e : i ≡ a = cc in omega (arith, e, at_least marks (i + 1) l a k))
distinct (true ∷ marks) i (suc j) zero a h k = absurd (let e : i ≡ a = cc in omega (arith, e, at_least marks (i + 1) j a h))
distinct (true ∷ marks) i (suc j) (suc l) a h k = ap suc (distinct marks (i + 1) j l a h k)
distinct (false ∷ marks) i j l a h k = distinct marks (i + 1) j l a h k

pub listed : (marks : List Bool) → ListsMarked (is_marked marks) (marked_from 0 marks)
listed marks = record {
  distinct = λ i j a h k. distinct marks 0 i j a h k;
  only = λ i a h. only_marked marks 0 i a a (omega arith) h;
  each = λ a h. each_marked marks 0 a a (omega arith) h;
}

pub length-marked_from : (marks : List Bool) (i : ℕ) → length (marked_from i marks) ≡ marked_count marks
length-marked_from [] i = refl
length-marked_from (true ∷ marks) i = omega (arith, length-marked_from marks (i + 1), sum_by-cons (λ b. if b then 1 else 0) true marks)
length-marked_from (false ∷ marks) i = omega (arith, length-marked_from marks (i + 1), sum_by-cons (λ b. if b then 1 else 0) false marks)
