-- A humongous object is made in a run of free regions, or goes with its run.
use Rattle.regions.proofs.Common.{◌≡◌, ◌≢◌, ◌+◌, ◌-◌, ◌*◌, ◌/◌, ◌^◌, ◌<◌, ◌≤◌, ◌∷◌, ◌++◌, ◌∙◌, ℕ, zero, suc, min, true, Some, None}
use Rattle.regions.proofs.Common.{List, [], length, take, drop, get_or, set, refl, sym, ap, subst, arith, inl, inr, zero-add, replicate}
use Rattle.regions.proofs.Common.{length-append, length-take, length-drop, append_assoc, drop-drop, get_or-drop, length-replicate, take_all}
use Rattle.regions.proofs.Common.{take-append-drop, cases_lt, header_of, header_word, Stored, Object, tile_size, stored_of, put, Region}
use Rattle.regions.proofs.Common.{Free, Table, region_at, tile_in, object_at, EachForwardedIn, HasObject, rests, run_regions, with_regions}
use Rattle.regions.proofs.Common.{new_object, first_run, is_free, object_size, sizes_in, first_stored, regions_of}
use Rattle.regions.proofs.Common.{IsObjectHeader, AreRows, free_row, kind_is_free, run_row, run_rows, table_of, table_by, IsTable, Row}
use Rattle.regions.proofs.Common.{Kind, paste, paste_more, mul-le}
use Rattle.std.proofs.Math.Nat.{mul-le-mul_right}
use Rattle.std.proofs.lemmas.List.{drop_all, append-nil}
use Rattle.heap_words.specs.declared.header.Header.TheVariants as headers
use Rattle.heap_words.proofs.Codec.{header_of-word}
use Rattle.regions.proofs.Rows.Search.{free, run_found, first_run-is}
use Rattle.regions.proofs.Words.Parse.{stored_of-append}
use Rattle.regions.specs.Rows.{run_kind}
use Rattle.regions.proofs.Rows.RowLemmas.{regions-at}
use Rattle.regions.proofs.LongRuns.RunRows.{rows_front, FreeFront, regions_of-drop, run_is, rows_behind}
use Rattle.regions.proofs.Tiles.Spliced.{IsOutside, spliced_kept}
use Rattle.regions.proofs.Tiles.Targets.{IsWrittenTable, written_table}
use Rattle.regions.proofs.Tiles.Making.{targets_of, length-regions_of, free_region}
use Rattle.regions.proofs.Words.Puts.{put_is}
use Rattle.regions.proofs.Words.Fresh.{fresh, stored_fresh, fresh_size}
use Rattle.regions.proofs.Words.Counts.{counted, counted_stored, object_header}
use Rattle.regions.specs.Tiles.{IsTileHeader}
use Rattle.regions.specs.Table.{new_pairs}
use Rattle.heap_words.specs.Contents.{counts_of, counted_size}
use Rattle.regions.specs.declared.row.Kind.TheVariants as kinds
use Rattle.regions.proofs.LongRuns.RunWrites.{drop_more_same}

length-rests : (size s i m : ℕ) → length (rests size s i m) ≡ m
length-rests size s i zero = refl
length-rests size s i (suc m) = ap suc (length-rests size s (suc i) m)

pub length-run_regions : (size m : ℕ) (s : Stored) → length (run_regions size s m) ≡ m
length-run_regions size zero s = refl
length-run_regions size (suc m) s = ap suc (length-rests size (tile_size (Object s)) 1 m)

pub length-run_rows : (size s i m : ℕ) → length (run_rows size s i m) ≡ m
length-run_rows size s i zero = refl
length-run_rows size s i (suc m) = ap suc (length-run_rows size s (suc i) m)

rests-moved : (P : ℕ → Type 0) (size s i m : ℕ) → EachForwardedIn P (rests size s i m)
rests-moved P size s i zero = tt
rests-moved P size s i (suc m) = rests-moved P size s (suc i) m

pub run-moved : (P : ℕ → Type 0) (size m : ℕ) (s : Stored) → EachForwardedIn P (run_regions size s m)
run-moved P size zero s = tt
run-moved P size (suc m) s = rests-moved P size (tile_size (Object s)) 1 m

free_front_at : (m j : ℕ) (rows : List Row) (d : Row) → FreeFront m rows → j < m
    → (j < length rows) × (kind_is_free (get_or rows j d).kind ≡ true)
free_front_at zero j rows d h l = absurd (omega arith)
free_front_at (suc m) j [] d h l = absurd h
free_front_at (suc m) zero (row ∷ rows) d h l = (omega arith, h.0)
free_front_at (suc m) (suc j) (row ∷ rows) d h l = let i = free_front_at m j rows d h.1 (omega arith) in (omega (arith, i.0), i.1)

pub free_front_le : (m : ℕ) (rows : List Row) → FreeFront m rows → m ≤ length rows
free_front_le zero rows h = omega arith
free_front_le (suc m) [] h = absurd h
free_front_le (suc m) (row ∷ rows) h = let i = free_front_le m rows h.1 in omega arith

-- a free region has no object
no_object : (t : Table) (x : ℕ) → get_or t.regions (x / t.words_per_region) Free ≡ Free → HasObject t x → ⊥
unfolding object_at tile_in region_at
no_object t x e o = let z : None ≡ Some o.object = rw e at o.is in cc

-- no object starts in the free regions
free_outside : (size : ℕ) (words : List ℕ) (rows : List Row) (t : Table) (k m : ℕ) → table_of size words rows ≡ t
    → FreeFront m (drop k rows) → (x : ℕ) → HasObject t x → HasObject t x × IsOutside k m (x / t.words_per_region)
free_outside size words rows t k m e h x o = (o, go (x / t.words_per_region) refl)
  where
    go : (q : ℕ) → q ≡ x / t.words_per_region → IsOutside k m q
    go q is =
        elim (cases_lt q k) [
          | inl a ↦ inl a
          | inr a ↦ elim (cases_lt q (k + m)) [
            | inl b ↦
                let there = free_front_at m (q - k) (drop k rows) free_row h (omega arith) in
                let at : k + (q - k) ≡ q = omega arith in
                let row : get_or (drop k rows) (q - k) free_row ≡ get_or rows q free_row =
                get_or-drop k rows (q - k) free_row ∙ ap (λ j. get_or rows j free_row) at in
                let free : kind_is_free (get_or rows q free_row).kind ≡ true = ap (λ (r : Row). kind_is_free r.kind) (sym row) ∙ there.1 in
                let known : q < length rows = omega (arith, there.0, length-drop k rows) in
                let region : get_or t.regions q Free ≡ Free = ap (λ (u : Table). get_or u.regions q Free) (sym e)
                ∙ regions-at (sizes_in words) size rows q (q * size) words free_row refl known ∙ free_region _ _ _ _ free in
                absurd (no_object t x (ap (λ j. get_or t.regions j Free) (sym is) ∙ region) o)
            | inr b ↦ inr b
          ]
        ]

run_ends : (k m l size : ℕ) → k + m ≤ l → k * size + m * size ≤ l * size
run_ends k m l size h = let at : l ≡ k + m + (l - (k + m)) = omega arith in rw at (omega arith)

-- A run of free regions takes an object: what is written lies within it.
pub run_made : (size : ℕ) (words words' : List ℕ) (rows : List Row) (t : Table) (k m s : ℕ) (object : Stored) → IsTable size words rows
    → table_of size words rows ≡ t → FreeFront m (drop k rows) → k < length rows → 0 < m → s ≤ m * size → m * size < s + size
    → length words' ≡ length words → take (k * size) words' ≡ take (k * size) words
    → drop (k * size + m * size) words' ≡ drop (k * size + m * size) words
    → IsObjectHeader (header_of (get_or (drop (k * size) words') 0 0))
    → object_size (header_of (get_or (drop (k * size) words') 0 0)) ≡ s → first_stored (drop (k * size) words') ≡ object
    → tile_size (Object object) ≡ s → IsWrittenTable size words' (take k rows ++ (run_rows size s 0 m ++ drop (k + m) rows))
    (with_regions t k m (run_regions size object m))
run_made size words words' rows t k m s object g e free known y le lt len before after is_object osize stored ts =
    let f : (ℕ → ℕ) = sizes_in words in
    let n : ℕ = k * size in
    let room : k + m ≤ length rows = let i = free_front_le m (drop k rows) free in omega (arith, length-drop k rows) in
    let first = free_front_at m 0 (drop k rows) free_row free y in
    let row_is : get_or (drop k rows) 0 free_row ≡ get_or rows k free_row =
    get_or-drop k rows 0 free_row ∙ ap (λ j. get_or rows j free_row) (let z : k + 0 ≡ k = omega arith in z) in
    let first_free : kind_is_free (get_or rows k free_row).kind ≡ true = ap (λ (r : Row). kind_is_free r.kind) (sym row_is) ∙ first.1 in
    let no_rest : (get_or rows k free_row).kind ≡ kinds.Rest → ⊥ = λ q. free_no_rest _ first_free q in
    let ends : n + m * size ≤ length words = rw g.covers (run_ends k m (length rows) size room) in
    let behind : AreRows f size 0 (drop (n + m * size) words) (drop (k + m) rows) =
    rows_behind f size k m words rows known g.rows_right free no_rest in
    let place : drop (m * size) (drop n words') ≡ drop (n + m * size) words = drop-drop (m * size) n words' ∙ after in
    let run = run_is f size s m (m * size) (drop n words') object (drop (k + m) rows) g.region_size.0 y refl le lt
    is_object osize stored ts (rw place behind) in
    let front = rows_front f size rows k n 0 words words' (run_rows size s 0 m ++ drop (k + m) rows) free_row refl known g.region_size.0
    g.rows_right no_rest len (omega arith) before run.rows_are in
    let tail : regions_of f size (drop (m * size) (drop n words')) (drop (k + m) rows) ≡ drop (k + m) (regions_of f size words rows) =
    rw place (regions_of-drop f size (k + m) (n + m * size) rows words (omega arith)) in
    let block : List Region = run_regions size object m in
    let regions_are : regions_of f size words' (take k rows ++ (run_rows size s 0 m ++ drop (k + m) rows))
    ≡ take k (regions_of f size words rows) ++ (block ++ drop (k + m) (regions_of f size words rows)) =
    front.regions_are ∙ ap (λ (rs : List Region). take k (regions_of f size words rows) ++ rs)
    (run.regions_are ∙ ap (λ (rs : List Region). block ++ rs) tail) in
    let whole : table_by f size words' (take k rows ++ (run_rows size s 0 m ++ drop (k + m) rows)) ≡ with_regions t k m block =
    ap (λ (rs : List Region). record { words_per_region = size; regions = rs }) regions_are
    ∙ ap (λ (u : Table). with_regions u k m block) e in
    let count : length t.regions ≡ length rows = ap (λ (u : Table). length u.regions) (sym e) ∙ length-regions_of f size rows words in
    let kept = spliced_kept t k m block (HasObject t) (length-run_regions size m object) (omega arith) (targets_of size words rows t g e)
    (run-moved (HasObject t) size m object) (free_outside size words rows t k m e free) in
    let length_is : length (take k rows ++ (run_rows size s 0 m ++ drop (k + m) rows)) ≡ length rows =
    simp (length-append, length-take, length-drop, length-run_rows) (omega arith) in
    written_table size words words' rows (take k rows ++ (run_rows size s 0 m ++ drop (k + m) rows)) t (with_regions t k m block) g
    e len length_is front.rows_are whole kept
  where
    free_no_rest : (kind : Kind) → kind_is_free kind ≡ true → kind ≡ kinds.Rest → ⊥
    free_no_rest kind h q = let z : kind_is_free kinds.Rest ≡ true = ap kind_is_free (sym q) ∙ h in cc

-- the rows that are written, one by one
get_or-run_rows : (size s i m j : ℕ) (d : Row) → j < m → get_or (run_rows size s i m) j d ≡ run_row size s (i + j)
get_or-run_rows size s i zero j d h = absurd (omega arith)
get_or-run_rows size s i (suc m) zero d h = ap (run_row size s) (let z : i ≡ i + 0 = omega arith in z)
get_or-run_rows size s i (suc m) (suc j) d h =
    get_or-run_rows size s (suc i) m j d (omega arith) ∙ ap (run_row size s) (let z : suc i + j ≡ i + suc j = omega arith in z)

pub run_row_put : (rows now : List Row) (at size s m i : ℕ) (row : Row) → at + m ≤ length rows → i < m
    → now ≡ paste rows at (run_rows size s 0 m) i → row ≡ run_row size s i
    → set now (at + i) row ≡ paste rows at (run_rows size s 0 m) (i + 1)
run_row_put rows now at size s m i row h l e is =
    let here : get_or (run_rows size s 0 m) i free_row ≡ row =
    get_or-run_rows size s 0 m i free_row l ∙ ap (run_row size s) (zero-add i) ∙ sym is in
    let more = paste_more rows at (run_rows size s 0 m) i free_row (omega arith) (omega (arith, length-run_rows size s 0 m)) in
    rw (e, ← here) more

pub run_kind_first : (i : ℕ) → i ≡ 0 → kinds.First ≡ run_kind i
run_kind_first i e = rw e refl

pub run_kind_rest : (i : ℕ) → i ≢ 0 → kinds.Rest ≡ run_kind i
run_kind_rest zero h = absurd (h refl)
run_kind_rest (suc i) h = refl

pub nth_row : (size s i used : ℕ) (kind : Kind) → kind ≡ run_kind i → used ≡ min size (s - i * size)
    → (let r : Row = record { kind = kind; used = used } in r) ≡ run_row size s i
nth_row size s i used kind e f = rw (e, f) refl

-- all regions of a run but its last one are full
pub full_row : (size s m i : ℕ) → m * size < s + size → i + 1 < m → size ≡ min size (s - i * size)
full_row size s m i tight h =
    let near : (i + 2) * size ≤ m * size = mul-le-mul_right size (omega arith) in
    omega (arith, near, tight)

-- where the last one begins
pub last_begins : (size s m : ℕ) → 0 < m → m * size < s + size → (m - 1) * size < s
last_begins size s zero some tight = absurd (omega arith)
last_begins size s (suc m) some tight = let z : suc m - 1 ≡ m = omega arith in rw z (omega arith)

-- where the run lies
pub record IsRunFound (size : ℕ) (words : List ℕ) (rows : List Row) (k m : ℕ) : Type 0 where
  pub in_rows : k < length rows
  pub room : k + m ≤ length rows
  pub ends : k * size + m * size ≤ length words
  pub whole : m * size ≤ length words
  pub small : k ≤ length words
  pub free : FreeFront m (drop k rows)

pub run_here_is : (size : ℕ) (words : List ℕ) (rows : List Row) (k m : ℕ) → IsTable size words rows
    → first_run free m rows ≡ Some k → IsRunFound size words rows k m
run_here_is size words rows k m g h =
    let found = run_found m k rows h in
    let room : k + m ≤ length rows = let i = free_front_le m (drop k rows) found.1 in omega (arith, length-drop k rows, found.0) in
    let ends : k * size + m * size ≤ length words = rw g.covers (run_ends k m (length rows) size room) in
    record {
      in_rows = found.0;
      room = room;
      ends = ends;
      whole = omega arith;
      small = let p = mul-le k 1 k size (omega arith) g.region_size.0 in omega (arith, ends, p);
      free = found.1;
    }

pub run_there : (size : ℕ) (words : List ℕ) (rows : List Row) (t : Table) (k m : ℕ) → IsTable size words rows → table_of size words rows ≡ t
    → first_run is_free m t.regions ≡ Some k → (first_run free m rows ≡ Some k) × IsRunFound size words rows k m
run_there size words rows t k m g e h =
    let found = sym (first_run-is size words rows t m e) ∙ h in (found, run_here_is size words rows k m g found)

-- an object's block, put at the run's bottom
first_put : (words : List ℕ) (n w name z : ℕ) → n + (2 + z) ≤ length words
    → drop n (put words n (w ∷ name ∷ replicate z 0)) ≡ w ∷ (name ∷ replicate z 0) ++ drop (n + (2 + z)) words
first_put words n w name z h =
    let block : List ℕ = w ∷ name ∷ replicate z 0 in
    let len : length block ≡ 2 + z = omega (arith, length-replicate {A = ℕ} z 0) in
    let x = put_is words n block (omega arith) in
    let a : take (2 + z) (drop n (put words n block)) ≡ block = rw (← len) x.at in
    let b : drop (2 + z) (drop n (put words n block)) ≡ drop (n + (2 + z)) words =
    drop-drop (2 + z) n (put words n block) ∙ rw (← len) x.after in
    sym (take-append-drop (2 + z) (drop n (put words n block)))
    ∙ ap (λ (xs : List ℕ). xs ++ drop (2 + z) (drop n (put words n block))) a ∙ ap (λ (xs : List ℕ). block ++ xs) b

-- what a `Vec` has once its rows are written through a slice
pub with_rows : (items new : List Row) (len : ℕ) → len ≡ length items → length new ≡ length items
    → take len (new ++ drop (length new) items) ≡ new
with_rows items new len e f =
    let none : drop (length new) items ≡ [] = drop_all (length new) items (omega arith) in
    rw (none, append-nil) (take_all len new (omega arith))

-- an object of so many of each, of which z words are its fields and its data
pub run_fresh : (size : ℕ) (words : List ℕ) (rows : List Row) (t : Table) (k m w name p weak held d z n long number : ℕ) (new : List ℕ)
    (rows' : List Row) → IsTable size words rows → table_of size words rows ≡ t → first_run free m rows ≡ Some k → 0 < m
    → IsTileHeader (header_of w) → counts_of (header_of w) ≡ Some (counted p weak held d) → z ≡ p + (weak + held) + d
    → 2 + z ≤ m * t.words_per_region → m * t.words_per_region < 2 + z + t.words_per_region
    → n ≡ k * size → long ≡ 2 + z → number ≡ length rows → new ≡ put words n (w ∷ name ∷ replicate z 0)
    → rows' ≡ paste rows k (run_rows size long 0 m) m
    → IsWrittenTable size new (take number (rows' ++ drop (length rows') rows))
    (with_regions t k m (run_regions t.words_per_region (fresh name p weak held d) m))
run_fresh size words rows t k m w name p weak held d z n long number new rows' g e h y head_is counts z_is covers tight
    n_is long_is number_is new_is rows_is =
    let size_is : size ≡ t.words_per_region = ap (λ (u : Table). u.words_per_region) e in
    let covers' : 2 + z ≤ m * size = rw size_is covers in
    let tight' : m * size < 2 + z + size = rw size_is tight in
    let found = run_here_is size words rows k m g h in
    let block : List ℕ = w ∷ name ∷ replicate z 0 in
    let blen : length block ≡ 2 + z = omega (arith, length-replicate {A = ℕ} z 0) in
    let words' : List ℕ = put words (k * size) block in
    let fits : k * size + (2 + z) ≤ length words = omega (arith, found.ends) in
    let x = put_is words (k * size) block (omega arith) in
    let start = first_put words (k * size) w name z fits in
    let head : header_of (get_or (drop (k * size) words') 0 0) ≡ header_of w = ap (λ (ws : List ℕ). header_of (get_or ws 0 0)) start in
    let body : stored_of p weak held d ((name ∷ replicate z 0) ++ drop (k * size + (2 + z)) words) ≡ fresh name p weak held d =
    stored_of-append p weak held d (name ∷ replicate z 0) (drop (k * size + (2 + z)) words)
    (omega (arith, z_is, length-replicate {A = ℕ} z 0)) ∙ stored_fresh name p weak held d z z_is in
    let stored : first_stored (drop (k * size) words') ≡ fresh name p weak held d = ap first_stored start
    ∙ counted_stored (header_of w) ((name ∷ replicate z 0) ++ drop (k * size + (2 + z)) words) (counted p weak held d) counts ∙ body in
    let after : drop (k * size + m * size) words' ≡ drop (k * size + m * size) words =
    drop_more_same (k * size + length block) (k * size + m * size) words' words (omega (arith, blen)) x.after in
    let ts : tile_size (Object (fresh name p weak held d)) ≡ 2 + z = fresh_size name p weak held d ∙ omega (arith, z_is) in
    let osize : object_size (header_of w) ≡ 2 + z = ap counted_size counts ∙ omega (arith, z_is) in
    let done = run_made size words words' rows t k m (2 + z) (fresh name p weak held d) g e found.free found.in_rows y covers'
    tight' x.length_is x.before after (rw head (object_header (header_of w) (counted p weak held d) head_is counts))
    (ap object_size head ∙ osize) stored ts in
    let run : List Row = run_rows size (2 + z) 0 m in
    let rows_are : rows' ≡ paste rows k run m = rows_is ∙ ap (λ (j : ℕ). paste rows k (run_rows size j 0 m) m) long_is in
    let same : paste rows k run m ≡ take k rows ++ (run ++ drop (k + m) rows) =
    append_assoc (take k rows) (take m run) (drop (k + m) rows)
    ∙ ap (λ (rs : List Row). take k rows ++ (rs ++ drop (k + m) rows))
    (take_all m run (omega (arith, length-run_rows size (2 + z) 0 m))) in
    let count : length rows' ≡ length rows = ap (λ (rs : List Row). length rs) (rows_are ∙ same)
    ∙ (simp (length-append, length-take, length-drop, length-run_rows) (omega (arith, found.room))) in
    let whole_rows = with_rows rows rows' number number_is count in
    let words_is : new ≡ words' = new_is ∙ ap (λ (j : ℕ). put words j (w ∷ name ∷ replicate z 0)) n_is in
    rw (words_is, whole_rows, rows_are, same)
    (subst (λ (r : ℕ). IsWrittenTable size words' (take k rows ++ (run ++ drop (k + m) rows))
    (with_regions t k m (run_regions r (fresh name p weak held d) m))) size_is done)

-- one without pairs
pub run_taken : (size : ℕ) (words : List ℕ) (rows : List Row) (t : Table) (k m name p weak d n long number : ℕ) (new : List ℕ)
    (rows' : List Row) → IsTable size words rows → table_of size words rows ≡ t → first_run free m rows ≡ Some k → 0 < m
    → 2 + p + weak + d ≤ m * t.words_per_region → m * t.words_per_region < 2 + p + weak + d + t.words_per_region → p < 2 ^ 24 → weak < 2 ^ 8
    → d < 2 ^ 24 → n ≡ k * size → long ≡ 2 + p + weak + d → number ≡ length rows
    → new ≡ put words n (header_word (headers.Object p weak d) ∷ name ∷ replicate (p + weak + d) 0)
    → rows' ≡ paste rows k (run_rows size long 0 m) m
    → IsWrittenTable size new (take number (rows' ++ drop (length rows') rows))
    (with_regions t k m (run_regions t.words_per_region (new_object name p weak d) m))
run_taken size words rows t k m name p weak d n long number new rows' g e h y covers tight small_p small_w
    small_d n_is long_is number_is new_is rows_is =
    let is = header_of-word (headers.Object p weak d) (small_p, small_w, small_d) in
    run_fresh size words rows t k m (header_word (headers.Object p weak d)) name p weak 0 d (p + weak + d) n long number new rows' g e h y
    (rw is tt) (ap counts_of is) (omega arith) (omega (arith, covers)) (omega (arith, tight)) n_is (omega (arith, long_is)) number_is new_is
    rows_is

-- and one of pairs
pub run_paired : (size : ℕ) (words : List ℕ) (rows : List Row) (t : Table) (k m name p q d n long number : ℕ) (new : List ℕ)
    (rows' : List Row) → IsTable size words rows → table_of size words rows ≡ t → first_run free m rows ≡ Some k → 0 < m → 0 < q
    → 2 + p + (q + q) + d ≤ m * t.words_per_region → m * t.words_per_region < 2 + p + (q + q) + d + t.words_per_region → p < 2 ^ 8
    → q < 2 ^ 23 → d < 2 ^ 24 → n ≡ k * size → long ≡ 2 + p + (q + q) + d → number ≡ length rows
    → new ≡ put words n (header_word (headers.Pairs p q d) ∷ name ∷ replicate (p + (q + q) + d) 0)
    → rows' ≡ paste rows k (run_rows size long 0 m) m
    → IsWrittenTable size new (take number (rows' ++ drop (length rows') rows))
    (with_regions t k m (run_regions t.words_per_region (new_pairs name p q d) m))
run_paired size words rows t k m name p q d n long number new rows' g e h y some covers tight small_p small_q
    small_d n_is long_is number_is new_is rows_is =
    let is = header_of-word (headers.Pairs p q d) (small_p, small_q, small_d) in
    run_fresh size words rows t k m (header_word (headers.Pairs p q d)) name p q q d (p + (q + q) + d) n long number new rows' g e h y
    (rw is some) (ap counts_of is) refl (omega (arith, covers)) (omega (arith, tight)) n_is (omega (arith, long_is)) number_is new_is
    rows_is
