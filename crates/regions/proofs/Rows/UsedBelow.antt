-- The number below which no row is free: the search for free rows begins there.
use Rattle.regions.proofs.Common.{◌≡◌, ◌+◌, ◌<◌, ◌≤◌, ◌++◌, ◌∷◌, ◌∙◌, ℕ, zero, suc, true, false, Some, None, List, [], length, take, drop}
use Rattle.regions.proofs.Common.{get_or, set, refl, sym, ap, subst, arith, position, not, inl, inr, ⊎_elim, add-zero, cases_lt, cases_eq}
use Rattle.regions.proofs.Common.{lt-ltb, le-ltb, get_or-set_same, get_or-set_other, get_or-take, get_or-drop, get_or_append_left}
use Rattle.regions.proofs.Common.{length-take, length-append, position_or_len, paste, free_row, AreUsedBelow, Row}
use Rattle.std.proofs.lemmas.List.Sums.{prefix_len_is}
use Rattle.regions.proofs.LongRuns.RunRows.{FreeFront}
use Rattle.regions.proofs.Rows.Search.{free, IsScanned, scan_init, scan_past}

-- a row that isn't free is there
pub used_in : (rows : List Row) (n : ℕ) → free (get_or rows n free_row) ≡ false → n < length rows
used_in [] n f = cc
used_in (row ∷ rows) zero f = omega arith
used_in (row ∷ rows) (suc n) f = let i = used_in rows n f in omega arith

pub used_none : (rows : List Row) → AreUsedBelow 0 rows
used_none rows k h = absurd (omega arith)

pub used_more : (rows : List Row) (n : ℕ) → AreUsedBelow n rows → free (get_or rows n free_row) ≡ false → AreUsedBelow (n + 1) rows
used_more rows n u f k h =
    ⊎_elim (λ b. u k b) (λ b. let e : n ≡ k = omega arith in subst (λ (j : ℕ). free (get_or rows j free_row) ≡ false) e f) (cases_lt k n)

pub used_same : (rows rows' : List Row) (n : ℕ) → ((k : ℕ) → k < n → get_or rows' k free_row ≡ get_or rows k free_row)
    → AreUsedBelow n rows → AreUsedBelow n rows'
used_same rows rows' n same u k h = ap free (same k h) ∙ u k h

-- the first free row is at n or above
pub used_le : (rows : List Row) (n k : ℕ) → AreUsedBelow n rows → free (get_or rows k free_row) ≡ true → n ≤ k
used_le rows n k u f = ⊎_elim (λ b. let e = u k b in cc) (λ b. b) (cases_lt k n)

-- a row is written that isn't free
pub used_set : (rows : List Row) (n k : ℕ) (row : Row) → k < length rows → free row ≡ false
    → AreUsedBelow n rows → AreUsedBelow n (set rows k row)
used_set rows n k row h f u j b = elim (cases_eq j k) [
  | inl e ↦ ap (λ (i : ℕ). free (get_or (set rows k row) i free_row)) e ∙ ap free (get_or-set_same rows k row free_row h) ∙ f
  | inr e ↦ ap free (get_or-set_other rows k j row free_row e) ∙ u j b
]

-- a run that was found begins with a free row
pub front_free : (rows : List Row) (k m : ℕ) → 0 < m → FreeFront m (drop k rows) → free (get_or rows k free_row) ≡ true
front_free rows k m z h = ap (λ (i : ℕ). free (get_or rows i free_row)) (sym (add-zero k))
    ∙ ap free (sym (get_or-drop k rows 0 free_row)) ∙ first m (drop k rows) z h
  where
    first : (m : ℕ) (rows : List Row) → 0 < m → FreeFront m rows → free (get_or rows 0 free_row) ≡ true
    first zero rows z h = absurd (omega arith)
    first (suc m) [] z h = absurd h
    first (suc m) (row ∷ rows) z h = h.0

-- the search for the lowest free row
first_is : (rows : List Row) (k : ℕ) → AreUsedBelow k rows → k ≤ length rows
    → (k < length rows → free (get_or rows k free_row) ≡ true) → position_or_len free rows ≡ k
first_is rows k u h f = prefix_len_is (λ row. not (free row)) rows k free_row h (λ j b. ap not (u j b)) (λ b. ap not (f b))

pub found_at : (rows : List Row) (k : ℕ) → AreUsedBelow k rows → k < length rows
    → free (get_or rows k free_row) ≡ true → Some k ≡ position free rows
found_at rows k u h f = rw (first_is rows k u (omega arith) (λ b. f), lt-ltb k (length rows) h) refl

pub found_none : (rows : List Row) (k : ℕ) → AreUsedBelow k rows → length rows ≤ k → None ≡ position free rows
found_none rows k u h =
    let all : AreUsedBelow (length rows) rows = λ j b. u j (omega arith) in
    rw (first_is rows (length rows) all (omega arith) (λ b. absurd (omega arith)), le-ltb (length rows) (length rows) (omega arith)) refl

-- the search for a run
pub scan_from : (rows : List Row) (count n : ℕ) → 0 < count → AreUsedBelow n rows → IsScanned rows count n n
scan_from rows count zero z u = scan_init rows count z
scan_from rows count (suc n) z u =
    let s = scan_from rows count n z (λ k b. u k (omega arith)) in
    let f = u n (omega arith) in
    let next : n + 1 ≡ suc n = omega arith in
    subst (λ (i : ℕ). IsScanned rows count i i) next (scan_past rows count n n z s (used_in rows n f) f)

-- the lowest free row is taken
pub used_taken : (rows : List Row) (k : ℕ) (row : Row) → k < length rows → ((j : ℕ) → j < k → free (get_or rows j free_row) ≡ false)
    → free row ≡ false → AreUsedBelow (k + 1) (set rows k row)
used_taken rows k row h u f =
    used_more (set rows k row) k (used_set rows k k row h f u) (ap free (get_or-set_same rows k row free_row h) ∙ f)

-- rows from a place on are written as a slice, none below the place
pub used_written : (rows rows' new : List Row) (n at m low number : ℕ) → AreUsedBelow n rows → at + m ≤ length rows → low ≤ at → low ≤ n
    → number ≡ length rows → rows' ≡ paste rows at new m → AreUsedBelow low (take number (rows' ++ drop (length rows') rows))
used_written rows rows' new n at m low number u l a b e f =
    used_same rows (take number (rows' ++ drop (length rows') rows)) low (λ k h. same k h) (λ k h. u k (omega arith))
  where
    same : (k : ℕ) → k < low → get_or (take number (rows' ++ drop (length rows') rows)) k free_row ≡ get_or rows k free_row
    same k h =
        let inside : k < length rows' = rw f (omega (
          arith,
          length-append (take at rows ++ take m new) (drop (at + m) rows),
          length-append (take at rows) (take m new),
          length-take at rows,
        )) in
        get_or-take number (rows' ++ drop (length rows') rows) k free_row (omega arith)
        ∙ get_or_append_left rows' (drop (length rows') rows) free_row k inside
        ∙ ap (λ (rs : List Row). get_or rs k free_row) f
        ∙ get_or_append_left (take at rows ++ take m new) (drop (at + m) rows) free_row k
        (omega (arith, length-append (take at rows) (take m new), length-take at rows))
        ∙ get_or_append_left (take at rows) (take m new) free_row k (omega (arith, length-take at rows))
        ∙ get_or-take at rows k free_row (omega arith)
