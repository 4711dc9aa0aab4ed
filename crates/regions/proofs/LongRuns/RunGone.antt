-- A run's regions become free.
use Rattle.regions.proofs.Common.{max_words, ◌≡◌, ◌≢◌, ◌+◌, ◌-◌, ◌*◌, ◌/◌, ◌%◌, ◌<◌, ◌≤◌, ◌∷◌, ◌++◌, ◌∙◌, ℕ, zero, suc, Bool, true, false}
use Rattle.regions.proofs.Common.{Some, None, List, [], length, take, drop, get_or, set, refl, sym, ap, subst, arith, inl, inr, replicate}
use Rattle.regions.proofs.Common.{drop-cons, length-append, length-take, length-drop, append_assoc, drop-drop, get_or-drop}
use Rattle.regions.proofs.Common.{length-replicate, take_all, paste_more, cases_lt, cases_eq, row_fits, paste, nth_region, region_kind}
use Rattle.regions.proofs.Common.{with_region, released, released_as, IsReleasable, Region, Free, Ordinary, First, Rest, Table, region_tile}
use Rattle.regions.proofs.Common.{region_at, tile_in, object_at, kind_of, EachForwardedIn, HasObject, with_regions, front_count, is_rest}
use Rattle.regions.proofs.Common.{run_length, without_run, left_by, region_by, regions_of, IsRow, IsRestRow, AreRows, free_row, sizes_in}
use Rattle.regions.proofs.Common.{table_of, table_by, IsTable, Row, Kind, mul-le}
use Rattle.regions.proofs.Rows.Fronts.{front_passes}
use Rattle.regions.proofs.LongRuns.RunMade.{with_rows}
use Rattle.regions.specs.Rows.{kind_is_rest}
use Rattle.regions.proofs.Rows.RowLemmas.{start_at, rest_is}
use Rattle.regions.proofs.LongRuns.RunRows.{rows_front, regions_of-drop}
use Rattle.regions.proofs.Tiles.Spliced.{IsOutside, spliced_kept}
use Rattle.regions.proofs.Tiles.Kept.{EachForwardedIn-both}
use Rattle.regions.proofs.Tiles.Targets.{IsWrittenTable, written_table}
use Rattle.regions.proofs.Tiles.Making.{targets_of, length-regions_of, known, kind_is, no_targets}
use Rattle.regions.specs.declared.row.Kind.TheVariants as kinds

abbrev pub rest : Row → Bool
rest row = kind_is_rest row.kind

-- what a count of them from the next row on says
pub rests_counted : (rows : List Row) (n k count : ℕ) → n ≡ k → count ≡ front_count rest (drop (n + 1) rows)
    → count ≡ front_count rest (drop (suc k) rows)
rests_counted rows n k count e is =
    let next : n + 1 ≡ suc k = omega (arith, e) in is ∙ ap (λ (j : ℕ). front_count rest (drop j rows)) next

pub front_more : (i n : ℕ) (rows : List Row) → i < length rows → kind_is_rest (get_or rows i free_row).kind ≡ true → n ≡ i + 1
    → front_count rest (drop i rows) ≡ suc (front_count rest (drop n rows))
front_more i n rows h f e =
    let at : suc i ≡ n = omega arith in
    rw (drop-cons rows i free_row h, f, ← at) refl

pub front_stops : (i : ℕ) (rows : List Row) → i < length rows
    → kind_is_rest (get_or rows i free_row).kind ≡ false → front_count rest (drop i rows) ≡ 0
front_stops i rows h f = rw (drop-cons rows i free_row h, f) refl

rest_by : (sizes : ℕ → ℕ) (ws : List ℕ) (used : ℕ) (kind : Kind) → is_rest (region_by sizes ws used kind) ≡ kind_is_rest kind
rest_by sizes ws used kinds.Free = refl
rest_by sizes ws used kinds.Ordinary = refl
rest_by sizes ws used kinds.First = refl
rest_by sizes ws used kinds.Rest = refl

front-regions : (f : ℕ → ℕ) (size : ℕ) (rows : List Row) (ws : List ℕ)
    → front_count is_rest (regions_of f size ws rows) ≡ front_count rest rows
front-regions f size [] ws = refl
front-regions f size (row ∷ rows) ws = rw (rest_by f ws row.used row.kind, front-regions f size rows (drop size ws)) refl

pub run_length-is : (size : ℕ) (words : List ℕ) (rows : List Row) (t : Table) (k : ℕ) → table_of size words rows ≡ t
    → run_length t k ≡ suc (front_count rest (drop (suc k) rows))
run_length-is size words rows t k e =
    ap (λ (u : Table). run_length u k) (sym e)
    ∙ ap (λ (rs : List Region). suc (front_count is_rest rs))
    (sym (regions_of-drop (sizes_in words) size (suc k) (suc k * size) rows words refl))
    ∙ ap suc (front-regions (sizes_in words) size (drop (suc k) rows) (drop (suc k * size) words))

no_rest : (f : ℕ → ℕ) (size : ℕ) (ws : List ℕ) (used : ℕ) (kind : Kind) → IsRow f size ws used kind → kind_is_rest kind ≡ false
no_rest f size ws used kinds.Rest r = absurd r
no_rest f size ws used _ r = refl

all_rest : (size left used : ℕ) (kind : Kind) → IsRestRow size left used kind → kind_is_rest kind ≡ true
all_rest size left used kind r = rw (rest_is size left used kind r) refl

-- behind the regions of a run
rests_end : (f : ℕ → ℕ) (size left m n : ℕ) (ws : List ℕ) (rows : List Row) → AreRows f size left ws rows → m ≡ front_count rest rows
    → n ≡ m * size → AreRows f size 0 (drop n ws) (drop m rows) × (m ≤ length rows)
rests_end f size left m n ws [] r e a = rw e (refl, omega arith)
rests_end f size zero m n ws (row ∷ rows) r e a =
    let z : m ≡ 0 = e ∙ rw (no_rest f size ws row.used row.kind r.0) refl in
    let y : n ≡ 0 = let q : n ≡ 0 * size = rw z at a in omega arith in
    rw (z, y) (r, omega arith)
rests_end f size (suc left) zero n ws (row ∷ rows) r e a =
    let z : 0 ≡ suc (front_count rest rows) = e ∙ rw (all_rest size (suc left) row.used row.kind r.0) refl in
    absurd (omega arith)
rests_end f size (suc left) (suc m) n ws (row ∷ rows) r e a =
    let z : suc m ≡ suc (front_count rest rows) = e ∙ rw (all_rest size (suc left) row.used row.kind r.0) refl in
    let i = rests_end f size (suc left - size) m (m * size) (drop size ws) rows r.1 (omega arith) refl in
    let at : n ≡ size + m * size = omega arith in
    (rw (at, ← drop-drop (m * size) size ws) i.0, omega (arith, i.1))

frees_are : (f : ℕ → ℕ) (size m n : ℕ) (ws : List ℕ) (tail : List Row) → n ≡ m * size → AreRows f size 0 (drop n ws) tail
    → AreRows f size 0 ws (replicate m free_row ++ tail)
frees_are f size zero n ws tail e r = let z : n ≡ 0 = omega arith in rw z at r
frees_are f size (suc m) n ws tail e r =
    let at : n ≡ size + m * size = omega arith in
    (refl, frees_are f size m (m * size) (drop size ws) tail refl (rw (drop-drop (m * size) size ws) (rw at at r)))

frees-regions : (f : ℕ → ℕ) (size m n : ℕ) (ws : List ℕ) (tail : List Row) → n ≡ m * size
    → regions_of f size ws (replicate m free_row ++ tail) ≡ replicate m Free ++ regions_of f size (drop n ws) tail
frees-regions f size zero n ws tail e = let z : n ≡ 0 = omega arith in rw z refl
frees-regions f size (suc m) n ws tail e =
    let at : n ≡ size + m * size = omega arith in
    let k = frees-regions f size m (m * size) (drop size ws) tail refl in
    ap (λ (rs : List Region). Free ∷ rs)
    (k ∙ ap (λ (xs : List ℕ). replicate m Free ++ regions_of f size xs tail) (drop-drop (m * size) size ws ∙ sym (ap (λ j. drop j ws) at)))

pub rest_no_tile : (r : Region) (o : ℕ) → is_rest r ≡ true → region_tile r o ≡ None
rest_no_tile (Rest n) o h = refl
rest_no_tile _ o h = cc

no_object : (t : Table) (x q : ℕ) → q ≡ x / t.words_per_region → is_rest (get_or t.regions q Free) ≡ true → HasObject t x → ⊥
unfolding object_at tile_in region_at
no_object t x q is e o =
    let e' : is_rest (get_or t.regions (x / t.words_per_region) Free) ≡ true = ap (λ j. is_rest (get_or t.regions j Free)) (sym is) ∙ e in
    let z : None ≡ Some o.object = rw (rest_no_tile _ (x % t.words_per_region) e') at o.is in cc

outside : (t : Table) (k x : ℕ) → HasObject t x → k ≢ x / t.words_per_region → IsOutside k (run_length t k) (x / t.words_per_region)
outside t k x o n = go (x / t.words_per_region) refl
  where
    go : (q : ℕ) → q ≡ x / t.words_per_region → IsOutside k (run_length t k) q
    go q is =
        elim (cases_lt q k) [
          | inl a ↦ inl a
          | inr a ↦ elim (cases_lt q (k + run_length t k)) [
            | inl b ↦ elim (cases_eq k q) [
              | inl c ↦ absurd (n (c ∙ is))
              | inr c ↦
                  let at : suc k + (q - suc k) ≡ q = omega arith in
                  let r = front_passes is_rest (drop (suc k) t.regions) Free (q - suc k) (omega arith) in
                  let r' : is_rest (get_or t.regions q Free) ≡ true =
                  ap is_rest (sym (get_or-drop (suc k) t.regions (q - suc k) Free ∙ ap (λ j. get_or t.regions j Free) at)) ∙ r in
                  absurd (no_object t x q is r' o)
            ]
            | inr b ↦ inr b
          ]
        ]

pub record IsRunGone (size : ℕ) (words : List ℕ) (rows : List Row) (t : Table) (k : ℕ) : Type 0 where
  pub in_rows : k < length rows
  pub room : k + suc (front_count rest (drop (suc k) rows)) ≤ length rows
  pub written : IsWrittenTable size words
      (take k rows
      ++ (replicate (suc (front_count rest (drop (suc k) rows))) free_row ++ drop (k + suc (front_count rest (drop (suc k) rows))) rows))
      (without_run t k)

pub run_gone : (size : ℕ) (words : List ℕ) (rows : List Row) (t : Table) (k : ℕ) → IsTable size words rows
    → table_of size words rows ≡ t → k < length t.regions → (kind_of t k ≡ kinds.Rest → ⊥)
    → EachForwardedIn (λ to. k ≢ to / t.words_per_region) t.regions → IsRunGone size words rows t k
run_gone size words rows t k g e h begins apart =
    let f : (ℕ → ℕ) = sizes_in words in
    let n : ℕ = k * size in
    let rests : ℕ = front_count rest (drop (suc k) rows) in
    let m : ℕ = suc rests in
    let kn = known size words rows t k e h in
    let no : (get_or rows k free_row).kind ≡ kinds.Rest → ⊥ = λ q. begins (kind_is size words rows t k kn ∙ q) in
    let st = start_at f size rows k n 0 words free_row refl kn.in_rows g.rows_right no in
    let ends = rests_end f size _ rests (rests * size) (drop size (drop n words)) (drop (suc k) rows) st.0.rest_are refl refl in
    let room : k + m ≤ length rows = omega (arith, ends.1, length-drop (suc k) rows, kn.in_rows) in
    let place : drop (rests * size) (drop size (drop n words)) ≡ drop (m * size) (drop n words) =
    drop-drop (rests * size) size (drop n words)
    ∙ ap (λ j. drop j (drop n words)) (let z : size + rests * size ≡ m * size = omega arith in z) in
    let behind : drop rests (drop (suc k) rows) ≡ drop (k + m) rows =
    drop-drop rests (suc k) rows ∙ ap (λ j. drop j rows) (let z : suc k + rests ≡ k + m = omega arith in z) in
    let tail : AreRows f size 0 (drop (m * size) (drop n words)) (drop (k + m) rows) = rw (place, behind) at ends.0 in
    let frees = frees_are f size m (m * size) (drop n words) (drop (k + m) rows) refl tail in
    let fits : n + size ≤ length words = rw g.covers (row_fits k size (length rows) size kn.in_rows (omega arith)) in
    let rows' : List Row = take k rows ++ (replicate m free_row ++ drop (k + m) rows) in
    let front = rows_front f size rows k n 0 words words (replicate m free_row ++ drop (k + m) rows) free_row refl kn.in_rows
    g.region_size.0 g.rows_right no refl (omega arith) refl frees in
    let rest_regions : regions_of f size (drop (m * size) (drop n words)) (drop (k + m) rows)
    ≡ drop (k + m) (regions_of f size words rows) =
    ap (λ (ws : List ℕ). regions_of f size ws (drop (k + m) rows)) (drop-drop (m * size) n words)
    ∙ regions_of-drop f size (k + m) (n + m * size) rows words (omega arith) in
    let regions_are : regions_of f size words rows'
    ≡ take k (regions_of f size words rows) ++ (replicate m Free ++ drop (k + m) (regions_of f size words rows)) =
    front.regions_are ∙ ap (λ (rs : List Region). take k (regions_of f size words rows) ++ rs)
    (frees-regions f size m (m * size) (drop n words) (drop (k + m) rows) refl
    ∙ ap (λ (rs : List Region). replicate m Free ++ rs) rest_regions) in
    let block : List Region = replicate m Free in
    let long : run_length t k ≡ m = run_length-is size words rows t k e in
    let whole : table_by f size words rows' ≡ with_regions t k m block =
    ap (λ (rs : List Region). record { words_per_region = size; regions = rs }) regions_are
    ∙ ap (λ (u : Table). with_regions u k m block) e in
    let count : length t.regions ≡ length rows = ap (λ (u : Table). length u.regions) (sym e) ∙ length-regions_of f size rows words in
    let both = EachForwardedIn-both (HasObject t) (λ to. k ≢ to / t.words_per_region) t.regions (targets_of size words rows t g e) apart in
    let kept = spliced_kept t k m block (λ to. HasObject t to × (k ≢ to / t.words_per_region)) (length-replicate {A = Region} m Free)
    (omega arith) both (no_targets _ m)
    (λ x p. (p.0, subst (λ (j : ℕ). IsOutside k j (x / t.words_per_region)) long (outside t k x p.0 p.1))) in
    let length_is : length rows' ≡ length rows = simp (length-append, length-take, length-drop, length-replicate) (omega arith) in
    let done = written_table size words words rows rows' t (with_regions t k m block) g e refl length_is front.rows_are whole kept in
    record {
      in_rows = kn.in_rows;
      room = room;
      written = subst (λ (j : ℕ). IsWrittenTable size words rows' (with_regions t k j (replicate j Free))) (sym long) done;
    }

-- rows made free one by one
get_or-frees : (m j : ℕ) → j < m → get_or (replicate m free_row) j free_row ≡ free_row
get_or-frees zero j h = absurd (omega arith)
get_or-frees (suc m) zero h = refl
get_or-frees (suc m) (suc j) h = get_or-frees m j (omega arith)

pub free_row_put : (rows now : List Row) (at m i : ℕ) → at + m ≤ length rows → i < m → now ≡ paste rows at (replicate m free_row) i
    → set now (at + i) free_row ≡ paste rows at (replicate m free_row) (i + 1)
free_row_put rows now at m i h l e =
    let more = paste_more rows at (replicate m free_row) i free_row (omega arith) (omega (arith, length-replicate {A = Row} m free_row)) in
    let here = get_or-frees m i l in
    rw e (subst (λ (row : Row).
    set (paste rows at (replicate m free_row) i) (at + i) row ≡ paste rows at (replicate m free_row) (i + 1)) here more)

-- the rows as the steps leave them
run_released : (size : ℕ) (words : List ℕ) (rows : List Row) (t : Table) (k at n number : ℕ) (rows' : List Row) → IsTable size words rows
    → table_of size words rows ≡ t → k < length t.regions → (kind_of t k ≡ kinds.Rest → ⊥)
    → EachForwardedIn (λ to. k ≢ to / t.words_per_region) t.regions → at ≡ k → n ≡ suc (front_count rest (drop (suc k) rows))
    → number ≡ length rows → rows' ≡ paste rows at (replicate n free_row) n
    → IsWrittenTable size words (take number (rows' ++ drop (length rows') rows)) (without_run t k)
run_released size words rows t k at n number rows' g e h begins apart at_is n_is number_is rows_is =
    let w = run_gone size words rows t k g e h begins apart in
    let m : ℕ = suc (front_count rest (drop (suc k) rows)) in
    let fill : List Row = replicate m free_row in
    let rows_are : rows' ≡ paste rows k fill m =
    rows_is ∙ ap (λ (j : ℕ). paste rows j (replicate n free_row) n) at_is ∙ ap (λ (j : ℕ). paste rows k (replicate j free_row) j) n_is in
    let same : paste rows k fill m ≡ take k rows ++ (fill ++ drop (k + m) rows) =
    append_assoc (take k rows) (take m fill) (drop (k + m) rows)
    ∙ ap (λ (rs : List Row). take k rows ++ (rs ++ drop (k + m) rows))
    (take_all m fill (omega (arith, length-replicate {A = Row} m free_row))) in
    let count : length rows' ≡ length rows = ap (λ (rs : List Row). length rs) (rows_are ∙ same)
    ∙ (simp (length-append, length-take, length-drop, length-replicate) (omega (arith, w.room))) in
    let whole = with_rows rows rows' number number_is count in
    subst (λ (rs : List Row). IsWrittenTable size words rs (without_run t k)) (sym (whole ∙ rows_are ∙ same)) w.written

splice_one : (rs : List Region) (k : ℕ) (r : Region) → k < length rs → take k rs ++ (r ∷ drop (suc k) rs) ≡ set rs k r
splice_one [] k r h = absurd (omega arith)
splice_one (q ∷ rs) zero r h = refl
splice_one (q ∷ rs) (suc k) r h = ap (λ (xs : List Region). q ∷ xs) (splice_one rs k r (omega arith))

-- one region becomes free
pub one_freed : (t : Table) (k : ℕ) → k < length t.regions → with_regions t k 1 (Free ∷ []) ≡ with_region t k Free
one_freed t k h =
    let next : k + 1 ≡ suc k = omega arith in
    ap (λ (rs : List Region). record { words_per_region = t.words_per_region; regions = rs })
    (ap (λ (j : ℕ). take k t.regions ++ (Free ∷ drop j t.regions)) next ∙ splice_one t.regions k Free h)

-- no later region of a run lies behind an ordinary one
ordinary_alone : (size : ℕ) (words : List ℕ) (rows : List Row) (t : Table) (k : ℕ) → IsTable size words rows → table_of size words rows ≡ t
    → k < length t.regions → kind_of t k ≡ kinds.Ordinary → run_length t k ≡ 1
ordinary_alone size words rows t k g e h o =
    let f : (ℕ → ℕ) = sizes_in words in
    let kn = known size words rows t k e h in
    let is : (get_or rows k free_row).kind ≡ kinds.Ordinary = sym (kind_is size words rows t k kn) ∙ o in
    let st = start_at f size rows k (k * size) 0 words free_row refl kn.in_rows g.rows_right
    (λ q. let z : kinds.Ordinary ≡ kinds.Rest = sym is ∙ q in cc) in
    let behind = subst (λ (kind : Kind).
    AreRows f size (left_by size (drop (k * size) words) kind) (drop size (drop (k * size) words)) (drop (suc k) rows)) is st.0.rest_are in
    run_length-is size words rows t k e ∙ ap suc (none_in_front f size (drop size (drop (k * size) words)) (drop (suc k) rows) behind)
  where
    none_in_front : (f : ℕ → ℕ) (size : ℕ) (ws : List ℕ) (rows : List Row) → AreRows f size 0 ws rows → front_count rest rows ≡ 0
    none_in_front f size ws [] r = refl
    none_in_front f size ws (row ∷ rows) r = rw (no_rest f size ws row.used row.kind r.0) refl

released_is : (size : ℕ) (words : List ℕ) (rows : List Row) (t : Table) (k : ℕ) → IsTable size words rows → table_of size words rows ≡ t
    → k < length t.regions → IsReleasable (kind_of t k) → (without_run t k ≡ released t k) × (kind_of t k ≡ kinds.Rest → ⊥)
unfolding released kind_of
released_is size words rows t k g e h can = go (nth_region t k) refl can
  where
    go : (r : Region) → nth_region t k ≡ r → IsReleasable (region_kind r)
        → (without_run t k ≡ released_as (nth_region t k) t k) × (region_kind (nth_region t k) ≡ kinds.Rest → ⊥)
    go Free f c = absurd c
    go (Ordinary ts) f c =
        let one = ordinary_alone size words rows t k g e h (ap region_kind f) in (
          ap (λ (n : ℕ). with_regions t k n (replicate n Free)) one ∙ one_freed t k h ∙ rw f refl,
          λ q. let z : kinds.Ordinary ≡ kinds.Rest = sym (ap region_kind f) ∙ q in cc,
        )
    go (First s) f c = (rw f refl, λ q. let z : kinds.First ≡ kinds.Rest = sym (ap region_kind f) ∙ q in cc)
    go (Rest n) f c = absurd c

pub release_by : (size : ℕ) (words : List ℕ) (rows : List Row) (t : Table) (k at n number : ℕ) (rows' : List Row) → IsTable size words rows
    → table_of size words rows ≡ t → k < length t.regions → IsReleasable (kind_of t k)
    → EachForwardedIn (λ to. k ≢ to / t.words_per_region) t.regions → at ≡ k → n ≡ suc (front_count rest (drop (suc k) rows))
    → number ≡ length rows → rows' ≡ paste rows at (replicate n free_row) n
    → IsWrittenTable size words (take number (rows' ++ drop (length rows') rows)) (released t k)
release_by size words rows t k at n number rows' g e h can apart at_is n_is number_is rows_is =
    let i = released_is size words rows t k g e h can in
    subst (λ (u : Table). IsWrittenTable size words (take number (rows' ++ drop (length rows') rows)) u) i.0
    (run_released size words rows t k at n number rows' g e h i.1 apart at_is n_is number_is rows_is)

pub release_room : (size : ℕ) (words : List ℕ) (rows : List Row) (t : Table) (k : ℕ) → IsTable size words rows
    → table_of size words rows ≡ t → k < length t.regions → IsReleasable (kind_of t k)
    → EachForwardedIn (λ to. k ≢ to / t.words_per_region) t.regions → k + suc (front_count rest (drop (suc k) rows)) ≤ length rows
release_room size words rows t k g e h can apart =
    let i = released_is size words rows t k g e h can in
    let w = run_gone size words rows t k g e h i.1 apart in
    w.room

-- what the count knows
pub record IsCounted (rows : List Row) (from i : ℕ) : Type 0 where
  pub front : front_count rest (drop from rows) ≡ i - from + front_count rest (drop i rows)
  pub from_le : from ≤ i

-- there are no more rows than words
pub rows_small : (size : ℕ) (words : List ℕ) (rows : List Row) → IsTable size words rows → length rows ≤ max_words
rows_small size words rows g =
    let p = mul-le (length rows) 1 (length rows) size (omega arith) g.region_size.0 in omega (arith, p, g.covers, g.small)
