-- Runs of regions: how rows and regions change with them.
use Rattle.regions.proofs.Common.{◌≡◌, ◌+◌, ◌-◌, ◌*◌, ◌<◌, ◌≤◌, ◌∷◌, ◌++◌, ◌∙◌, ℕ, zero, suc, min, true, List, [], length, take, drop}
use Rattle.regions.proofs.Common.{get_or, refl, sym, ap, arith, length-drop, drop-drop, drop-take, header_of, Stored, Object, tile_size}
use Rattle.regions.proofs.Common.{Region, First, Rest, rests, run_regions, object_size, first_stored, regions_of, IsObjectHeader, left_by}
use Rattle.regions.proofs.Common.{AreRows, free_row, kind_is_free, run_rows, Row, Kind}
use Rattle.regions.proofs.Rows.RowLemmas.{start_at, rest_is}
use Rattle.regions.proofs.Rows.RowWrites.{same_row, same_rest}
use Rattle.regions.specs.declared.row.Kind.TheVariants as kinds

pub record IsFront (f : ℕ → ℕ) (size left k n : ℕ) (ws ws' : List ℕ) (rows tail : List Row) : Type 0 where
  pub regions_are : regions_of f size ws' (take k rows ++ tail) ≡ take k (regions_of f size ws rows) ++ regions_of f size (drop n ws') tail
  pub rows_are : AreRows f size left ws' (take k rows ++ tail)

-- The rows from one on that is no Rest give way to others, with their words.
pub rows_front : (f : ℕ → ℕ) (size : ℕ) (rows : List Row) (k n left : ℕ) (ws ws' : List ℕ) (tail : List Row) (d : Row) → n ≡ k * size
    → k < length rows → 0 < size → AreRows f size left ws rows → ((get_or rows k d).kind ≡ kinds.Rest → ⊥) → length ws' ≡ length ws
    → n ≤ length ws → take n ws' ≡ take n ws → AreRows f size 0 (drop n ws') tail → IsFront f size left k n ws ws' rows tail
rows_front f size [] k n left ws ws' tail d e h z r o l b a t = absurd (omega arith)
rows_front f size (row ∷ rows) zero n zero ws ws' tail d e h z r o l b a t =
    let at : n ≡ 0 = omega arith in
    let start : drop n ws' ≡ ws' = ap (λ m. drop m ws') at in
    record { regions_are = rw start refl; rows_are = rw start at t }
rows_front f size (row ∷ rows) zero n (suc left) ws ws' tail d e h z r o l b a t = absurd (o (rest_is _ _ _ _ r.0))
rows_front f size (row ∷ rows) (suc k) n zero ws ws' tail d e h z r o l b a t =
    let m : ℕ = k * size in
    let at : n ≡ size + m = omega arith in
    let place : drop m (drop size ws') ≡ drop n ws' = drop-drop m size ws' ∙ sym (ap (λ j. drop j ws') at) in
    let front : take (size + m) ws' ≡ take (size + m) ws = rw at at a in
    let before : take m (drop size ws') ≡ take m (drop size ws) = sym (drop-take size m ws') ∙ ap (drop size) front ∙ drop-take size m ws in
    let len : length (drop size ws') ≡ length (drop size ws) = simp length-drop (omega arith) in
    let room : m ≤ length (drop size ws) = simp length-drop (omega arith) in
    let st = start_at f size rows k m (left_by size ws row.kind) (drop size ws) d refl (omega arith) r.1 o in
    let i = rows_front f size rows k m (left_by size ws row.kind) (drop size ws) (drop size ws') tail d refl
    (omega arith) z r.1 o len room before (rw place t) in
    let s = same_row f size n ws ws' row.used row.kind a l b (omega arith) z (omega (arith, st.1)) r.0 in
    record { regions_are = rw (s.region_is, i.regions_are, place) refl; rows_are = (s.row_is, rw s.left_is i.rows_are) }
rows_front f size (row ∷ rows) (suc k) n (suc left) ws ws' tail d e h z r o l b a t =
    let m : ℕ = k * size in
    let at : n ≡ size + m = omega arith in
    let place : drop m (drop size ws') ≡ drop n ws' = drop-drop m size ws' ∙ sym (ap (λ j. drop j ws') at) in
    let front : take (size + m) ws' ≡ take (size + m) ws = rw at at a in
    let before : take m (drop size ws') ≡ take m (drop size ws) = sym (drop-take size m ws') ∙ ap (drop size) front ∙ drop-take size m ws in
    let len : length (drop size ws') ≡ length (drop size ws) = simp length-drop (omega arith) in
    let room : m ≤ length (drop size ws) = simp length-drop (omega arith) in
    let i = rows_front f size rows k m (suc left - size) (drop size ws) (drop size ws') tail d refl
    (omega arith) z r.1 o len room before (rw place t) in
    let s = same_rest f size (suc left) ws ws' row.used row.kind r.0 in
    record { regions_are = rw (s, i.regions_are, place) refl; rows_are = (r.0, i.rows_are) }

-- the first m are free
abbrev pub FreeFront : ℕ → List Row → Type 0
FreeFront zero rows = Unit {0}
FreeFront (suc m) [] = ⊥
FreeFront (suc m) (row ∷ rows) = (kind_is_free row.kind ≡ true) × FreeFront m rows

free_left : (size : ℕ) (ws : List ℕ) (kind : Kind) → kind_is_free kind ≡ true → left_by size ws kind ≡ 0
free_left size ws kinds.First h = cc
free_left size ws _ h = refl

-- behind free regions
pub free_behind : (f : ℕ → ℕ) (size m n : ℕ) (rows : List Row) (ws : List ℕ) → n ≡ m * size → FreeFront m rows → AreRows f size 0 ws rows
    → AreRows f size 0 (drop n ws) (drop m rows)
free_behind f size zero n rows ws e h r = let z : n ≡ 0 = omega arith in rw z r
free_behind f size (suc m) n [] ws e h r = absurd h
free_behind f size (suc m) n (row ∷ rows) ws e h r =
    let at : n ≡ size + m * size = omega arith in
    let r' : AreRows f size 0 (drop size ws) rows = rw (free_left size ws row.kind h.0) at r.1 in
    let i = free_behind f size m (m * size) rows (drop size ws) refl h.1 r' in
    rw (at, ← drop-drop (m * size) size ws) i

pub regions_of-drop : (f : ℕ → ℕ) (size m n : ℕ) (rows : List Row) (ws : List ℕ) → n ≡ m * size
    → regions_of f size (drop n ws) (drop m rows) ≡ drop m (regions_of f size ws rows)
regions_of-drop f size zero n rows ws e = let z : n ≡ 0 = omega arith in rw z refl
regions_of-drop f size (suc m) n [] ws e = refl
regions_of-drop f size (suc m) n (row ∷ rows) ws e =
    let at : n ≡ size + m * size = omega arith in
    let i = regions_of-drop f size m (m * size) rows (drop size ws) refl in
    ap (λ (xs : List ℕ). regions_of f size xs (drop m rows)) (ap (λ j. drop j ws) at ∙ sym (drop-drop (m * size) size ws)) ∙ i

-- the rows of a run behind its first one
pub rests_are : (f : ℕ → ℕ) (size s i m n left : ℕ) (ws : List ℕ) (tail : List Row) → 0 < size → left ≡ s - suc i * size → n ≡ m * size
    → s ≤ suc i * size + n → (0 < m → suc i * size + n < s + size) → AreRows f size 0 (drop n ws) tail
    → AreRows f size left ws (run_rows size s (suc i) m ++ tail)
rests_are f size s i zero n left ws tail z e w le lt r =
    let a : left ≡ 0 = omega arith in
    let b : n ≡ 0 = omega arith in
    rw a (rw b at r)
rests_are f size s i (suc m) n zero ws tail z e w le lt r = absurd (let q = lt (omega arith) in omega arith)
rests_are f size s i (suc m) n (suc left) ws tail z e w le lt r =
    let at : n ≡ size + m * size = omega arith in
    let next : suc (suc i) * size ≡ suc i * size + size = omega arith in
    let q = lt (omega arith) in
    let r' : AreRows f size 0 (drop (m * size) (drop size ws)) tail = rw (drop-drop (m * size) size ws) (rw at at r) in
    let k = rests_are f size s (suc i) m (m * size) (suc left - size) (drop size ws) tail z (omega arith)
    refl (omega arith) (λ h. omega arith) r' in
    (ap (min size) (sym e), k)

pub rests-regions : (f : ℕ → ℕ) (size s i m n : ℕ) (ws : List ℕ) (tail : List Row) → n ≡ m * size
    → regions_of f size ws (run_rows size s (suc i) m ++ tail) ≡ rests size s (suc i) m ++ regions_of f size (drop n ws) tail
rests-regions f size s i zero n ws tail e = let z : n ≡ 0 = omega arith in rw z refl
rests-regions f size s i (suc m) n ws tail e =
    let at : n ≡ size + m * size = omega arith in
    let k = rests-regions f size s (suc i) m (m * size) (drop size ws) tail refl in
    ap (λ (rs : List Region). Rest (min size (s - suc i * size)) ∷ rs)
    (k ∙ ap (λ (xs : List ℕ). rests size s (suc (suc i)) m ++ regions_of f size xs tail)
    (drop-drop (m * size) size ws ∙ sym (ap (λ j. drop j ws) at)))

pub record IsRun (f : ℕ → ℕ) (size s m n : ℕ) (ws : List ℕ) (object : Stored) (tail : List Row) : Type 0 where
  pub rows_are : AreRows f size 0 ws (run_rows size s 0 m ++ tail)
  pub regions_are : regions_of f size ws (run_rows size s 0 m ++ tail) ≡ run_regions size object m ++ regions_of f size (drop n ws) tail

-- a run's rows and those behind it
pub run_is : (f : ℕ → ℕ) (size s m n : ℕ) (ws : List ℕ) (object : Stored) (tail : List Row) → 0 < size → 0 < m → n ≡ m * size → s ≤ n
    → n < s + size → IsObjectHeader (header_of (get_or ws 0 0)) → object_size (header_of (get_or ws 0 0)) ≡ s → first_stored ws ≡ object
    → tile_size (Object object) ≡ s → AreRows f size 0 (drop n ws) tail → IsRun f size s m n ws object tail
run_is f size s zero n ws object tail z y e le lt i o st ts r = absurd (omega arith)
run_is f size s (suc m) n ws object tail z y e le lt i o st ts r =
    let at : n ≡ size + m * size = omega arith in
    let first : s - 0 * size ≡ s = omega arith in
    let r' : AreRows f size 0 (drop (m * size) (drop size ws)) tail = rw (drop-drop (m * size) size ws) (rw at at r) in
    let left : object_size (header_of (get_or ws 0 0)) - size ≡ s - 1 * size = omega arith in
    let k = rests_are f size s 0 m (m * size) (object_size (header_of (get_or ws 0 0)) - size) (drop size ws) tail z left
    refl (omega arith) (λ h. omega arith) r' in
    let q = rests-regions f size s 0 m (m * size) (drop size ws) tail refl in
    let e1 : regions_of f size ws (run_rows size s 0 (suc m) ++ tail)
    ≡ First (first_stored ws) ∷ (rests size s 1 m ++ regions_of f size (drop n ws) tail) =
    ap (λ (rs : List Region). First (first_stored ws) ∷ rs)
    (q
    ∙ ap (λ (xs : List ℕ). rests size s 1 m ++ regions_of f size xs tail) (drop-drop (m * size) size ws ∙ sym (ap (λ j. drop j ws) at))) in
    record {
      rows_are = ((i, rw (first, o) refl), k);
      regions_are = e1 ∙ ap (λ (o : Stored). First o ∷ (rests size s 1 m ++ regions_of f size (drop n ws) tail)) st
          ∙ ap (λ (v : ℕ). First object ∷ (rests size v 1 m ++ regions_of f size (drop n ws) tail)) (sym ts);
    }

-- the rows from one on that is no Rest
pub rows_from : (f : ℕ → ℕ) (size k n left : ℕ) (words : List ℕ) (rows : List Row) → n ≡ k * size → k < length rows
    → AreRows f size left words rows → ((get_or rows k free_row).kind ≡ kinds.Rest → ⊥) → AreRows f size 0 (drop n words) (drop k rows)
rows_from f size k n left words [] e h r o = absurd (omega arith)
rows_from f size zero n zero words (row ∷ rows) e h r o = let z : n ≡ 0 = omega arith in rw z r
rows_from f size zero n (suc left) words (row ∷ rows) e h r o = absurd (o (rest_is _ _ _ _ r.0))
rows_from f size (suc k) n zero words (row ∷ rows) e h r o =
    let at : n ≡ size + k * size = omega arith in
    rw (at, ← drop-drop (k * size) size words) (rows_from f size k (k * size) _ (drop size words) rows refl (omega arith) r.1 o)
rows_from f size (suc k) n (suc left) words (row ∷ rows) e h r o =
    let at : n ≡ size + k * size = omega arith in
    rw (at, ← drop-drop (k * size) size words) (rows_from f size k (k * size) _ (drop size words) rows refl (omega arith) r.1 o)

-- the rows behind free ones
pub rows_behind : (f : ℕ → ℕ) (size k m : ℕ) (words : List ℕ) (rows : List Row) → k < length rows → AreRows f size 0 words rows
    → FreeFront m (drop k rows) → ((get_or rows k free_row).kind ≡ kinds.Rest → ⊥)
    → AreRows f size 0 (drop (k * size + m * size) words) (drop (k + m) rows)
rows_behind f size k m words rows h r free o =
    let here = rows_from f size k (k * size) 0 words rows refl h r o in
    rw (← drop-drop (m * size) (k * size) words, ← drop-drop m k rows)
    (free_behind f size m (m * size) (drop k rows) (drop (k * size) words) refl free here)
