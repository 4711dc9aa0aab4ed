-- How many rows are free: the same as regions are, and what each change of rows does to it.
use Rattle.regions.proofs.Common.{count_by-le-length, length-replicate, sum_by-take-drop, sum_by-replicate, free_row_count, length-append}
use Rattle.regions.proofs.Common.{sum_by-append, IsReleasable, kind_is_free, length-take, length-drop, sum_by-cons, front_count, sum_by-set}
use Rattle.regions.proofs.Common.{free_count, regions_of, replicate, drop-drop, region_of, take_all, table_of, sizes_in, free_row, run_rows}
use Rattle.regions.proofs.Common.{is_free, kind_of, run_row, length, get_or, sum_by, Region, false, arith, paste, Table, ◌++◌, zero, Bool}
use Rattle.regions.proofs.Common.{true, List, take, drop, refl, cond, Kind, ◌≡◌, ◌+◌, ◌<◌, ◌≤◌, ◌∷◌, ◌∙◌, suc, set, sym, Row, [], ap, ℕ}
use Rattle.std.specs.List.{count_by}
use Rattle.regions.proofs.Rows.Search.{free}
use Rattle.regions.proofs.Tiles.Making.{free_by, IsKnown, kind_is}
use Rattle.regions.proofs.LongRuns.RunRows.{FreeFront}
use Rattle.regions.proofs.LongRuns.RunGone.{rest}
use Rattle.regions.proofs.LongRuns.RunMade.{with_rows, length-run_rows}
use Rattle.regions.specs.declared.row.Kind.TheVariants as kinds

abbrev bit : Row → ℕ
bit row = cond (free row) 1 0

abbrev region_bit : Region → ℕ
region_bit r = cond (is_free r) 1 0

count_regions : (sizes : ℕ → ℕ) (size : ℕ) (rows : List Row) (ws : List ℕ)
    → free_row_count rows ≡ count_by is_free (regions_of sizes size ws rows)
count_regions sizes size [] ws = refl
count_regions sizes size (row ∷ rows) ws =
    let same : region_bit (region_of sizes ws row) ≡ bit row = ap {B = ℕ} (λ b. cond b 1 0) (free_by sizes ws row.used row.kind) in
    omega (
      arith,
      same,
      count_regions sizes size rows (drop size ws),
      sum_by-cons bit row rows,
      sum_by-cons region_bit (region_of sizes ws row) (regions_of sizes size (drop size ws) rows),
    )

-- as many regions are free
pub count_is : (size : ℕ) (words : List ℕ) (rows : List Row) (t : Table) (n : ℕ) → table_of size words rows ≡ t → n ≡ free_row_count rows
    → n ≡ free_count t
count_is size words rows t n e c = c ∙ count_regions (sizes_in words) size rows words ∙ ap free_count e

-- ---- a region's row
pub row_used : (size : ℕ) (words : List ℕ) (rows : List Row) (t : Table) (k : ℕ) → IsKnown size words rows t k
    → kind_of t k ≡ kinds.Ordinary → free (get_or rows k free_row) ≡ false
row_used size words rows t k n o = ap kind_is_free (sym (kind_is size words rows t k n) ∙ o)

releasable_used : (kind : Kind) → IsReleasable kind → kind_is_free kind ≡ false
releasable_used kinds.Ordinary h = refl
releasable_used kinds.First h = refl
releasable_used _ h = absurd h

pub release_used : (size : ℕ) (words : List ℕ) (rows : List Row) (t : Table) (k : ℕ) → IsKnown size words rows t k
    → IsReleasable (kind_of t k) → free (get_or rows k free_row) ≡ false
release_used size words rows t k n h = ap kind_is_free (sym (kind_is size words rows t k n)) ∙ releasable_used (kind_of t k) h

-- ---- one row changes
pub count_kept : (rows : List Row) (k n : ℕ) (row : Row) → k < length rows → free (get_or rows k free_row) ≡ false → free row ≡ false
    → n ≡ free_row_count rows → n ≡ free_row_count (set rows k row)
count_kept rows k n row h was now c =
    let a : bit (get_or rows k free_row) ≡ 0 = ap {B = ℕ} (λ b. cond b 1 0) was in
    let b : bit row ≡ 0 = ap {B = ℕ} (λ b. cond b 1 0) now in
    omega (arith, a, b, sum_by-set bit rows k row free_row h)

pub count_taken : (rows : List Row) (k n : ℕ) (row : Row) → k < length rows → free (get_or rows k free_row) ≡ true → free row ≡ false
    → n ≡ free_row_count rows → n ≡ free_row_count (set rows k row) + 1
count_taken rows k n row h was now c =
    let a : bit (get_or rows k free_row) ≡ 1 = ap {B = ℕ} (λ b. cond b 1 0) was in
    let b : bit row ≡ 0 = ap {B = ℕ} (λ b. cond b 1 0) now in
    omega (arith, a, b, sum_by-set bit rows k row free_row h)

-- ---- m rows from a place on are written as a slice
count_written : (rows rows' new : List Row) (at m number : ℕ) → at + m ≤ length rows → length new ≡ m
    → number ≡ length rows → rows' ≡ paste rows at new m
    → free_row_count (take number (rows' ++ drop (length rows') rows)) + free_row_count (take m (drop at rows))
    ≡ free_row_count rows + free_row_count new
count_written rows rows' new at m number l size e f =
    let whole : take m new ≡ new = take_all m new (omega arith) in
    let parts : rows' ≡ (take at rows ++ new) ++ drop (at + m) rows =
    f ∙ ap (λ (mid : List Row). (take at rows ++ mid) ++ drop (at + m) rows) whole in
    let long : length rows' ≡ length rows = ap (λ (rs : List Row). length rs) parts ∙ omega (
      arith,
      length-append (take at rows ++ new) (drop (at + m) rows),
      length-append (take at rows) new,
      length-take at rows,
      length-drop (at + m) rows,
    ) in
    let now : take number (rows' ++ drop (length rows') rows) ≡ (take at rows ++ new) ++ drop (at + m) rows =
    with_rows rows rows' number e long ∙ parts in
    let behind : drop m (drop at rows) ≡ drop (at + m) rows = drop-drop m at rows in
    let tail = ap (sum_by bit) behind in
    rw now (omega (
      arith,
      sum_by-append bit (take at rows ++ new) (drop (at + m) rows),
      sum_by-append bit (take at rows) new,
      sum_by-take-drop bit rows at,
      sum_by-take-drop bit (drop at rows) m,
      tail,
    ))

-- ---- regions are released
rest_used : (kind : Kind) → rest (record { kind = kind; used = 0 }) ≡ true → kind_is_free kind ≡ false
rest_used kinds.Free h = cc
rest_used _ h = refl

rests_used : (rows : List Row) → free_row_count (take (front_count rest rows) rows) ≡ 0
rests_used [] = refl
rests_used (row ∷ rows) = go (rest row) refl (rests_used rows)
  where
    go : (b : Bool) → rest row ≡ b → free_row_count (take (front_count rest rows) rows) ≡ 0
        → free_row_count (take (cond b (suc (front_count rest rows)) 0) (row ∷ rows)) ≡ 0
    go false e i = refl
    go true e i =
        let one : bit row ≡ 0 = ap {B = ℕ} (λ b. cond b 1 0) (rest_used row.kind e) in
        omega (arith, one, i, sum_by-cons bit row (take (front_count rest rows) rows))

block_used : (rows : List Row) (k n : ℕ) → k < length rows → free (get_or rows k free_row) ≡ false
    → n ≡ suc (front_count rest (drop (suc k) rows)) → free_row_count (take n (drop k rows)) ≡ 0
block_used [] k n h f e = absurd (omega arith)
block_used (row ∷ rows) zero n h f e =
    let one : bit row ≡ 0 = ap {B = ℕ} (λ b. cond b 1 0) f in
    rw e (omega (arith, one, rests_used rows, sum_by-cons bit row (take (front_count rest rows) rows)))
block_used (row ∷ rows) (suc k) n h f e = block_used rows k n (omega arith) f e

pub frees : (n : ℕ) → free_row_count (replicate n free_row) ≡ n
frees n = omega (arith, sum_by-replicate bit n free_row)

pub count_released : (rows rows' : List Row) (k at m n number : ℕ) → k < length rows → free (get_or rows k free_row) ≡ false → at ≡ k
    → at + m ≤ length rows → m ≡ suc (front_count rest (drop (suc k) rows)) → n ≡ free_row_count rows
    → number ≡ length rows → rows' ≡ paste rows at (replicate m free_row) m
    → n + m ≡ free_row_count (take number (rows' ++ drop (length rows') rows))
count_released rows rows' k at m n number h f at_is room m_is c e p =
    let used : free_row_count (take m (drop at rows)) ≡ 0 = rw at_is (block_used rows k m h f m_is) in
    omega (
      arith,
      used,
      frees m,
      count_written rows rows' (replicate m free_row) at m number room (length-replicate {A = Row} m free_row) e p,
    )

-- and so they are as many as rows at most
pub few_released : (rows rows' : List Row) (k at m n number : ℕ) → k < length rows → free (get_or rows k free_row) ≡ false → at ≡ k
    → at + m ≤ length rows → m ≡ suc (front_count rest (drop (suc k) rows)) → n ≡ free_row_count rows
    → number ≡ length rows → rows' ≡ paste rows at (replicate m free_row) m → n + m ≤ number
few_released rows rows' k at m n number h f at_is room m_is c e p =
    let left : List Row = take number (rows' ++ drop (length rows') rows) in
    let more : n + m ≡ free_row_count left = count_released rows rows' k at m n number h f at_is room m_is c e p in
    let few : free_row_count left ≤ length left = count_by-le-length (λ row. kind_is_free row.kind) left in
    let short = length-take number (rows' ++ drop (length rows') rows) in
    omega (arith, more, few, short)

-- ---- a run is made
front_frees : (m : ℕ) (rows : List Row) → FreeFront m rows → free_row_count (take m rows) ≡ m
front_frees zero rows h = refl
front_frees (suc m) [] h = absurd h
front_frees (suc m) (row ∷ rows) h =
    let one : bit row ≡ 1 = ap {B = ℕ} (λ b. cond b 1 0) h.0 in
    omega (arith, one, front_frees m rows h.1, sum_by-cons bit row (take m rows))

pub run_counted : (rows : List Row) (at m n : ℕ) → FreeFront m (drop at rows) → n ≡ free_row_count rows → m ≤ n
run_counted rows at m n h c =
    omega (arith, front_frees m (drop at rows) h, sum_by-take-drop bit rows at, sum_by-take-drop bit (drop at rows) m)

run_used : (i : ℕ) (size s : ℕ) → free (run_row size s i) ≡ false
run_used zero size s = refl
run_used (suc i) size s = refl

runs_used : (size s i m : ℕ) → free_row_count (run_rows size s i m) ≡ 0
runs_used size s i zero = refl
runs_used size s i (suc m) =
    let one : bit (run_row size s i) ≡ 0 = ap {B = ℕ} (λ b. cond b 1 0) (run_used i size s) in
    omega (arith, one, runs_used size s (suc i) m, sum_by-cons bit (run_row size s i) (run_rows size s (suc i) m))

pub count_run : (rows rows' : List Row) (at m n number size s : ℕ) → at + m ≤ length rows → FreeFront m (drop at rows)
    → n ≡ free_row_count rows → number ≡ length rows → rows' ≡ paste rows at (run_rows size s 0 m) m
    → n ≡ free_row_count (take number (rows' ++ drop (length rows') rows)) + m
count_run rows rows' at m n number size s room front c e p =
    omega (
      arith,
      front_frees m (drop at rows) front,
      runs_used size s 0 m,
      count_written rows rows' (run_rows size s 0 m) at m number room (length-run_rows size s 0 m) e p,
    )
