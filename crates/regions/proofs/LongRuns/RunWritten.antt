-- What a write to a humongous object does to the table.
use Rattle.regions.proofs.Common.{header_of, EachForwardedIn, Region, Free, First, region_at, with_object, put_object, object_size}
use Rattle.regions.proofs.Common.{sizes_in, first_stored, regions_of, table_of, table_by, IsTable, free_row, Stored, Object, stored_of, Row}
use Rattle.regions.proofs.Common.{◌≡◌, ◌+◌, ◌*◌, ◌/◌, ◌%◌, ◌<◌, ◌≤◌, ◌∷◌, ◌∙◌, ℕ, suc, Some, List, [], length, take, drop, get_or, set}
use Rattle.regions.proofs.Common.{refl, sym, ap, arith, length-drop, length-set, drop-drop, drop-set-add, drop-set-lt, take-set-le}
use Rattle.regions.proofs.Common.{get_or-drop, get_or-set_other, row_fits}
use Rattle.heap_words.specs.Contents.{counts_of, counted_size}
use Rattle.regions.proofs.Words.Counts.{counts_in, counted_stored}
use Rattle.regions.proofs.Words.Fields.{Turns}
use Rattle.regions.proofs.Words.Places.{table_right, InFirst, in_first}
use Rattle.regions.proofs.Rows.RowLemmas.{regions-at}
use Rattle.regions.proofs.Tiles.Targets.{IsWrittenTable, written_table}
use Rattle.regions.proofs.Tiles.Kept.{IsKept}
use Rattle.regions.proofs.LongRuns.RunWrites.{run_written}

run_stored : (ws : List ℕ) (j v : ℕ) (s s' : Stored)
    → counts_of (header_of (get_or ws 0 0)) ≡ Some (counts_in s)
    → s ≡ stored_of (length s.pointers) (length s.weaks) (length s.held) (length s.values) (drop 1 ws)
    → 2 + length s.pointers + (length s.weaks + length s.held) + length s.values ≤ length ws → Turns s j v s'
    → first_stored (set ws (suc j) v) ≡ s'
run_stored [] j v s s' h e l t = absurd (omega arith)
run_stored (w ∷ ws) j v s s' h e l t = counted_stored (header_of w) (set ws j v) (counts_in s) h ∙ t ws (omega arith) e

pub write_first : (size : ℕ) (words : List ℕ) (rows : List Row) (x j v : ℕ) (s s' : Stored) → IsTable size words rows
    → InFirst (sizes_in words) size words rows x (Object s) → j < 1 + length s.pointers + (length s.weaks + length s.held) + length s.values
    → Turns s j v s'
    → EachForwardedIn (IsKept (table_of size words rows) (put_object (table_of size words rows) x s'))
    (put_object (table_of size words rows) x s').regions
    → IsWrittenTable size (set words (x + suc j) v) rows (put_object (table_of size words rows) x s')
unfolding put_object region_at
write_first size words rows x j v s s' g q h turns agree =
    let f : (ℕ → ℕ) = sizes_in words in
    let k : ℕ = x / size in
    let n : ℕ = x / size * size in
    let words' : List ℕ = set words (x + suc j) v in
    let is_at : n ≡ x = omega (arith, g.region_size.0, q.at_bottom) in
    let i = in_first (sizes_in words) size words rows x s (table_right g) q in
    let place : x + suc j ≡ n + suc j = omega arith in
    let fits : n + size ≤ length words = rw g.covers (row_fits k size (length rows) size q.known (omega arith)) in
    let d' : drop n words' ≡ set (drop n words) (suc j) v = ap (λ a. drop n (set words a v)) place ∙ drop-set-add n words (suc j) v in
    let front : take n words' ≡ take n words = take-set-le n words (x + suc j) v (omega arith) in
    let word : get_or (drop n words') 0 0 ≡ get_or (drop n words) 0 0 =
    ap (λ (ws : List ℕ). get_or ws 0 0) d' ∙ get_or-set_other (drop n words) (suc j) 0 v 0 (λ e. omega arith) in
    let head : get_or (drop n words) 0 0 ≡ get_or words x 0 =
    get_or-drop n words 0 0 ∙ ap (λ a. get_or words a 0) (let z : n + 0 ≡ x = omega arith in z) in
    let header : counts_of (header_of (get_or (drop n words) 0 0)) ≡ Some (counts_in s) =
    ap (λ (a : ℕ). counts_of (header_of a)) head ∙ i.header_is in
    let osize : object_size (header_of (get_or (drop n words) 0 0))
    ≡ 2 + length s.pointers + (length s.weaks + length s.held) + length s.values =
    ap counted_size header in
    let after : drop (object_size (header_of (get_or (drop n words) 0 0))) (drop n words')
    ≡ drop (object_size (header_of (get_or (drop n words) 0 0))) (drop n words) =
    ap (drop (object_size (header_of (get_or (drop n words) 0 0)))) d' ∙ drop-set-lt _ (drop n words) (suc j) v (omega arith) in
    let behind : drop 1 (drop n words) ≡ drop (x + 1) words =
    drop-drop 1 n words ∙ ap (λ a. drop a words) (let z : n + 1 ≡ x + 1 = omega arith in z) in
    let stored : s ≡ stored_of (length s.pointers) (length s.weaks) (length s.held) (length s.values) (drop 1 (drop n words)) =
    i.stored_is ∙ sym (ap (stored_of (length s.pointers) (length s.weaks) (length s.held) (length s.values)) behind) in
    let new : first_stored (drop n words') ≡ s' =
    ap first_stored d' ∙ run_stored (drop n words) j v s s' header stored (omega (arith, length-drop n words, i.fits)) turns in
    let w = run_written f size rows k n 0 words words' free_row refl q.known g.region_size.0 g.rows_right q.kind_is
    (length-set words (x + suc j) v) fits front word after in
    let old : get_or (regions_of f size words rows) k Free ≡ First (first_stored (drop n words)) =
    regions-at f size rows k n words free_row refl q.known ∙ rw q.kind_is refl in
    let are : regions_of f size words' rows
    ≡ set (regions_of f size words rows) k (with_object (get_or (regions_of f size words rows) k Free) (x % size) s') =
    w.regions_are ∙ rw (old, new) refl in
    let whole : table_by f size words' rows ≡ put_object (table_of size words rows) x s' =
    ap (λ (rs : List Region). record { words_per_region = size; regions = rs }) are in
    written_table size words words' rows rows (table_of size words rows) (put_object (table_of size words rows) x s') g refl
    (length-set words (x + suc j) v) refl w.rows_are whole agree
