-- Regions as a whole: made, taken, released, asked for.
use Rattle.regions.proofs.Common.{max_words, ◌≡◌, ◌+◌, ◌-◌, ◌*◌, ◌<◌, ◌≤◌, ◌∷◌, ◌∙◌, ℕ, zero, suc, Some, None, List, [], length, take, drop}
use Rattle.regions.proofs.Common.{get_or, set, refl, sym, ap, subst, arith, true, replicate, position, Region, Free, Ordinary}
use Rattle.regions.proofs.Common.{Table, with_region, is_free, first_free, taken, region_used, nth_region, used_of, region_kind, kind_of}
use Rattle.regions.proofs.Common.{free_table, HasNoForwarded, EachForwardedIn, HasTargets, length-take, length-drop, length-replicate}
use Rattle.regions.proofs.Common.{header_of, total_size, size_by, tiles, IsTiled, sizes_in, region_by, region_of, regions_of, IsRow}
use Rattle.regions.proofs.Common.{AreRows, table_of, IsTable, free_row, kind_is_free, Row, Kind, row_fits, position_or_len, position-Some}
use Rattle.heap_words.specs.Configs.{max_region_words}
use Rattle.std.proofs.lemmas.List.{get_or_read}
use Rattle.regions.proofs.Words.Parse.{skip_le, tile_size-by}
use Rattle.regions.proofs.Rows.RowLemmas.{regions-at, start_at}
use Rattle.regions.proofs.Rows.RowWrites.{IsPlain, plain_not_rest}
use Rattle.regions.proofs.Tiles.Targets.{IsWrittenTable}
use Rattle.regions.proofs.Tiles.Kept.{IsKept, was_free_kept}
use Rattle.regions.proofs.Words.Written.{region_changed}
use Rattle.regions.specs.declared.row.Kind.TheVariants as kinds

pub length-regions_of : (sizes : ℕ → ℕ) (size : ℕ) (rows : List Row) (ws : List ℕ) → length (regions_of sizes size ws rows) ≡ length rows
length-regions_of sizes size [] ws = refl
length-regions_of sizes size (row ∷ rows) ws = ap suc (length-regions_of sizes size rows (drop size ws))

pub size_is_of : (size : ℕ) (words : List ℕ) (rows : List Row) (t : Table) → table_of size words rows ≡ t → size ≡ t.words_per_region
size_is_of size words rows t e = ap (λ (u : Table). u.words_per_region) e

pub record IsKnown (size : ℕ) (words : List ℕ) (rows : List Row) (t : Table) (k : ℕ) : Type 0 where
  pub size_is : size ≡ t.words_per_region
  pub in_rows : k < length rows
  pub region_is : nth_region t k ≡ region_of (sizes_in words) (drop (k * size) words) (get_or rows k free_row)

pub known : (size : ℕ) (words : List ℕ) (rows : List Row) (t : Table) (k : ℕ) → table_of size words rows ≡ t
    → k < length t.regions → IsKnown size words rows t k
unfolding nth_region
known size words rows t k e h =
    let l : length (regions_of (sizes_in words) size words rows) ≡ length t.regions = ap (λ (u : Table). length u.regions) e in
    let p : k < length rows = omega (arith, length-regions_of (sizes_in words) size rows words) in
    record {
      size_is = ap (λ (u : Table). u.words_per_region) e;
      in_rows = p;
      region_is = rw (← e) (regions-at (sizes_in words) size rows k (k * size) words free_row refl p);
    }

-- the row of a region, as a call read it
pub row_read : (size : ℕ) (words : List ℕ) (rows : List Row) (t : Table) (k n : ℕ) (row : Row) → IsKnown size words rows t k → n ≡ k
    → row ≡ get_or rows n row → row ≡ get_or rows k free_row
row_read size words rows t k n row i e read =
    get_or_read rows n row (omega (arith, i.in_rows, e)) read free_row ∙ ap (λ (j : ℕ). get_or rows j free_row) e

kind_by : (sizes : ℕ → ℕ) (ws : List ℕ) (used : ℕ) (kind : Kind) → region_kind (region_by sizes ws used kind) ≡ kind
kind_by sizes ws used kinds.Free = refl
kind_by sizes ws used kinds.Ordinary = refl
kind_by sizes ws used kinds.First = refl
kind_by sizes ws used kinds.Rest = refl

pub kind_is : (size : ℕ) (words : List ℕ) (rows : List Row) (t : Table) (k : ℕ) → IsKnown size words rows t k
    → kind_of t k ≡ (get_or rows k free_row).kind
unfolding kind_of
kind_is size words rows t k g = rw g.region_is (kind_by _ _ _ _)

-- the tiles fill their words
pub tiles_total : (sizes : ℕ → ℕ) (k : ℕ) (ws : List ℕ) → IsTiled sizes k ws → k + total_size (tiles sizes k ws) ≡ length ws
tiles_total sizes k [] h = omega arith
tiles_total sizes zero (w ∷ ws) h =
    let i = tiles_total sizes (size_by sizes (header_of w) - 1) ws h.2 in
    let fits = skip_le sizes _ ws h.2 in
    let e = tile_size-by sizes (header_of w) ws fits in
    omega (arith, h.1)
tiles_total sizes (suc k) (w ∷ ws) h = let i = tiles_total sizes k ws h in omega arith

-- a new table
pub regions_of-free : (sizes : ℕ → ℕ) (size n : ℕ) (ws : List ℕ) → regions_of sizes size ws (replicate n free_row) ≡ replicate n Free
regions_of-free sizes size zero ws = refl
regions_of-free sizes size (suc n) ws = ap (λ rs. Free ∷ rs) (regions_of-free sizes size n (drop size ws))

pub AreRows-free : (sizes : ℕ → ℕ) (size n : ℕ) (ws : List ℕ) → AreRows sizes size 0 ws (replicate n free_row)
AreRows-free sizes size zero ws = refl
AreRows-free sizes size (suc n) ws = (refl, AreRows-free sizes size n (drop size ws))

-- the lowest free region
pub free_by : (sizes : ℕ → ℕ) (ws : List ℕ) (used : ℕ) (kind : Kind) → is_free (region_by sizes ws used kind) ≡ kind_is_free kind
free_by sizes ws used kinds.Free = refl
free_by sizes ws used kinds.Ordinary = refl
free_by sizes ws used kinds.First = refl
free_by sizes ws used kinds.Rest = refl

pub place-regions_of : (sizes : ℕ → ℕ) (size : ℕ) (rows : List Row) (ws : List ℕ)
    → position_or_len is_free (regions_of sizes size ws rows) ≡ position_or_len (λ (row : Row). kind_is_free row.kind) rows
place-regions_of sizes size [] ws = refl
place-regions_of sizes size (row ∷ rows) ws = rw (free_by sizes ws row.used row.kind, place-regions_of sizes size rows (drop size ws)) refl

pub first_free-is : (size : ℕ) (words : List ℕ) (rows : List Row) (t : Table) → table_of size words rows ≡ t
    → first_free t ≡ position (λ (row : Row). kind_is_free row.kind) rows
first_free-is size words rows t e =
    rw (← e, place-regions_of (sizes_in words) size rows words, length-regions_of (sizes_in words) size rows words) refl

-- a row changes and no word
pub row_changed : (size : ℕ) (words : List ℕ) (rows : List Row) (t : Table) (k : ℕ) (row : Row) (r : Region) → IsTable size words rows
    → table_of size words rows ≡ t → k < length rows → IsPlain (get_or rows k free_row).kind → IsPlain row.kind
    → IsRow (sizes_in words) size (drop (k * size) words) row.used row.kind → region_of (sizes_in words) (drop (k * size) words) row ≡ r
    → EachForwardedIn (IsKept t (with_region t k r)) (with_region t k r).regions
    → IsWrittenTable size words (set rows k row) (with_region t k r)
row_changed size words rows t k row r g e h p q i is kept =
    region_changed size words words rows t k row r g e h p q (record { length_is = refl; before = refl; after = refl }) i is kept

free_is_plain : (kind : Kind) → kind_is_free kind ≡ true → IsPlain kind
free_is_plain kinds.First h = cc
free_is_plain kinds.Rest h = cc
free_is_plain _ h = tt

pub free_region : (sizes : ℕ → ℕ) (ws : List ℕ) (used : ℕ) (kind : Kind) → kind_is_free kind ≡ true → region_by sizes ws used kind ≡ Free
free_region sizes ws used kinds.Free h = refl
free_region sizes ws used _ h = cc

free_at : (size : ℕ) (words : List ℕ) (rows : List Row) (t : Table) (k : ℕ) → table_of size words rows ≡ t → k < length rows
    → kind_is_free (get_or rows k free_row).kind ≡ true → get_or t.regions k Free ≡ Free
free_at size words rows t k e h f =
    rw (← e) (regions-at (sizes_in words) size rows k (k * size) words free_row refl h ∙ free_region _ _ _ _ f)

pub targets_of : (size : ℕ) (words : List ℕ) (rows : List Row) (t : Table) → IsTable size words rows
    → table_of size words rows ≡ t → HasTargets t
targets_of size words rows t g e = subst (λ (u : Table). HasTargets u) e g.targets

pub taken_is : (size : ℕ) (words : List ℕ) (rows : List Row) (t : Table) (k : ℕ) → IsTable size words rows → table_of size words rows ≡ t
    → k < length rows → kind_is_free (get_or rows k free_row).kind ≡ true
    → IsWrittenTable size words (set rows k (record { kind = kinds.Ordinary; used = 0 })) (with_region t k (Ordinary []))
taken_is size words rows t k g e h f =
    let free = free_at size words rows t k e h f in
    let kept = was_free_kept t k (Ordinary []) free (tt, tt) (targets_of size words rows t g e) in
    row_changed size words rows t k _ _ g e h (free_is_plain _ f) tt (omega arith, refl) refl kept

pub record IsTop (size : ℕ) (words : List ℕ) (rows : List Row) (t : Table) (k : ℕ) : Type 0 where
  pub used_is : (get_or rows k free_row).used ≡ used_of t k
  pub used_le : (get_or rows k free_row).used ≤ size
  pub room : k * size + size ≤ length words

used_by : (sizes : ℕ → ℕ) (size used : ℕ) (kind : Kind) (ws : List ℕ) → size ≤ length ws → IsPlain kind → IsRow sizes size ws used kind
    → (region_used size (region_by sizes ws used kind) ≡ used) × (used ≤ size)
used_by sizes size used kinds.Free ws f p r = (sym r, omega arith)
used_by sizes size used kinds.Ordinary ws f p r =
    let n = tiles_total sizes 0 (take used ws) r.1 in
    (omega (arith, length-take used ws, r.0), r.0)
used_by sizes size used kinds.First ws f p r = absurd p
used_by sizes size used kinds.Rest ws f p r = absurd r

pub plain_from : (kind : Kind) → kind ≡ kinds.Ordinary → IsPlain kind
plain_from kind e = rw e tt

pub top_is : (size : ℕ) (words : List ℕ) (rows : List Row) (t : Table) (k : ℕ) → IsTable size words rows → table_of size words rows ≡ t
    → k < length t.regions → kind_of t k ≡ kinds.Ordinary → IsTop size words rows t k
unfolding used_of nth_region
top_is size words rows t k g e h o =
    let n = known size words rows t k e h in
    let is : (get_or rows k free_row).kind ≡ kinds.Ordinary = sym (kind_is size words rows t k n) ∙ o in
    let p = plain_from _ is in
    let fits : k * size + size ≤ length words = rw g.covers (row_fits k size (length rows) size n.in_rows (omega arith)) in
    let st = start_at (sizes_in words) size rows k (k * size) 0 words free_row refl n.in_rows g.rows_right (plain_not_rest _ p) in
    let u = used_by (sizes_in words) size (get_or rows k free_row).used (get_or rows k free_row).kind (drop (k * size) words)
    (omega (arith, length-drop (k * size) words)) p st.0.row_is in
    record { used_is = rw (← n.size_is, n.region_is) (sym u.0); used_le = u.1; room = fits }

pub known_top : (size : ℕ) (words : List ℕ) (rows : List Row) (t : Table) (k : ℕ) → IsTable size words rows → table_of size words rows ≡ t
    → k < length t.regions → kind_of t k ≡ kinds.Ordinary → IsKnown size words rows t k × IsTop size words rows t k
known_top size words rows t k g e h o = (known size words rows t k e h, top_is size words rows t k g e h o)

-- the top's address
pub top_at : (size : ℕ) (words : List ℕ) (rows : List Row) (t : Table) (k top : ℕ) → IsKnown size words rows t k
    → top ≡ k * t.words_per_region + used_of t k → top ≡ k * size + used_of t k
top_at size words rows t k top i e = e ∙ ap (λ (m : ℕ). k * m + used_of t k) (sym i.size_is)

pub no_targets : (P : ℕ → Type 0) (n : ℕ) → EachForwardedIn P (replicate n Free)
no_targets P zero = tt
no_targets P (suc n) = no_targets P n

pub new_table : (size n : ℕ) (words : List ℕ) (rows : List Row) → 0 < size → size ≤ max_region_words → length words ≡ n * size
    → n * size ≤ max_words → rows ≡ replicate n free_row → IsWrittenTable size words rows (free_table n size)
unfolding free_table
new_table size n words rows z h l m e =
    record {
      is_table = record {
        region_size = (z, h);
        covers = rw (e, length-replicate n free_row) l;
        small = rw l m;
        rows_right = rw e (AreRows-free (sizes_in words) size n words);
        targets = rw (e, regions_of-free (sizes_in words) size n words) (no_targets _ n);
      };
      table_is = rw e (ap (λ (rs : List Region). record { words_per_region = size; regions = rs })
          (regions_of-free (sizes_in words) size n words));
    }

pub record IsTaken (size : ℕ) (words : List ℕ) (rows : List Row) (t : Table) (k : ℕ) : Type 0 where
  pub written : IsWrittenTable size words (set rows k (record { kind = kinds.Ordinary; used = 0 })) (taken t (first_free t))
  pub lowest : first_free t ≡ Some k
  pub in_rows : k < length rows

pub lowest_taken : (size : ℕ) (words : List ℕ) (rows : List Row) (t : Table) (k : ℕ) → IsTable size words rows
    → table_of size words rows ≡ t → position (λ (row : Row). kind_is_free row.kind) rows ≡ Some k → IsTaken size words rows t k
lowest_taken size words rows t k g e h =
    let p = position-Some (λ (row : Row). kind_is_free row.kind) rows k free_row h in
    let first : first_free t ≡ Some k = first_free-is size words rows t e ∙ h in
    record {
      written = rw first (taken_is size words rows t k g e p.0 p.1);
      lowest = first;
      in_rows = p.0;
    }

pub none_taken : (size : ℕ) (words : List ℕ) (rows : List Row) (t : Table) → table_of size words rows ≡ t
    → position (λ (row : Row). kind_is_free row.kind) rows ≡ None → (first_free t ≡ None) × (t ≡ taken t (first_free t))
none_taken size words rows t e h =
    let first : first_free t ≡ None = first_free-is size words rows t e ∙ h in
    (first, rw first refl)

-- nothing is moved in a table of free regions
pub free_table-unmoved : (n w : ℕ) → HasNoForwarded (free_table n w)
unfolding free_table
free_table-unmoved zero w = tt
free_table-unmoved (suc n) w = free_table-unmoved n w
