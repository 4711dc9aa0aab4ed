-- What a write to an object does to the table.
-- the words of region k change, and its row
use Rattle.regions.proofs.Common.{◌≡◌, ◌+◌, ◌*◌, ◌/◌, ◌%◌, ◌<◌, ◌≤◌, ◌∙◌, ℕ, suc, List, length, take, drop, get_or, set, refl, sym, ap}
use Rattle.regions.proofs.Common.{subst, arith, length-take, length-set, drop-set-add, drop-set-lt, take-set-le, set-get_or, Stored, Object}
use Rattle.regions.proofs.Common.{tiles, Region, Free, Ordinary, Table, region_at, with_object, put_object, with_region, EachForwardedIn}
use Rattle.regions.proofs.Common.{sizes_in, region_of, regions_of, IsRow, table_of, table_by, IsTable, free_row, Row, Kind, row_fits}
use Rattle.regions.proofs.Words.Parse.{tile_at-tiles}
use Rattle.regions.proofs.Rows.RowLemmas.{regions-at, start_at}
use Rattle.regions.proofs.Words.Places.{InOrdinary}
use Rattle.regions.proofs.Rows.RowWrites.{IsPlain, rows_written}
use Rattle.regions.proofs.Words.Fields.{take_set, Turns, object_set}
use Rattle.regions.proofs.Tiles.Targets.{IsWrittenTable, written_table}
use Rattle.regions.proofs.Tiles.Kept.{IsKept}
use Rattle.regions.specs.declared.row.Kind.TheVariants as kinds

pub record IsChange (size : ℕ) (words words' : List ℕ) (n : ℕ) : Type 0 where
  pub length_is : length words' ≡ length words
  pub before : take n words' ≡ take n words
  pub after : drop (n + size) words' ≡ drop (n + size) words

pub region_changed : (size : ℕ) (words words' : List ℕ) (rows : List Row) (t : Table) (k : ℕ) (row : Row) (r : Region)
    → IsTable size words rows → table_of size words rows ≡ t → k < length rows → IsPlain (get_or rows k free_row).kind → IsPlain row.kind
    → IsChange size words words' (k * size) → IsRow (sizes_in words) size (drop (k * size) words') row.used row.kind
    → region_of (sizes_in words) (drop (k * size) words') row ≡ r
    → EachForwardedIn (IsKept t (with_region t k r)) (with_region t k r).regions
    → IsWrittenTable size words' (set rows k row) (with_region t k r)
region_changed size words words' rows t k row r g e known p q c i is kept =
    let fits : k * size + size ≤ length words = rw g.covers (row_fits k size (length rows) size known (omega arith)) in
    let w = rows_written (sizes_in words) size rows k (k * size) 0 words words' free_row row refl known g.region_size.0 g.rows_right p
    c.length_is fits c.before c.after i q in
    let are : regions_of (sizes_in words) size words' (set rows k row) ≡ set (regions_of (sizes_in words) size words rows) k r =
    w.regions_are ∙ rw is refl in
    let whole : table_by (sizes_in words) size words' (set rows k row) ≡ with_region t k r =
    ap (λ (rs : List Region). record { words_per_region = size; regions = rs }) are ∙ ap (λ (u : Table). with_region u k r) e in
    written_table size words words' rows (set rows k row) t (with_region t k r) g e c.length_is
    (length-set rows k row) w.rows_are whole kept

-- one word in region k
one_word : (size : ℕ) (words : List ℕ) (n m v : ℕ) → m < size → IsChange size words (set words (n + m) v) n
one_word size words n m v h = record {
  length_is = length-set words (n + m) v;
  before = take-set-le n words (n + m) v (omega arith);
  after = drop-set-lt (n + size) words (n + m) v (omega arith);
}

one_content : (words : List ℕ) (n m v used : ℕ) → take used (drop n (set words (n + m) v)) ≡ set (take used (drop n words)) m v
one_content words n m v used = rw (drop-set-add n words m v) (take_set used (drop n words) m v)

pub write_ordinary : (size : ℕ) (words : List ℕ) (rows : List Row) (x j v : ℕ) (s s' : Stored) → IsTable size words rows
    → InOrdinary (sizes_in words) size words rows x (Object s)
    → j < 1 + length s.pointers + (length s.weaks + length s.held) + length s.values
    → Turns s j v s' → EachForwardedIn (IsKept (table_of size words rows) (put_object (table_of size words rows) x s'))
    (put_object (table_of size words rows) x s').regions
    → IsWrittenTable size (set words (x + suc j) v) rows (put_object (table_of size words rows) x s')
unfolding put_object region_at
write_ordinary size words rows x j v s s' g q h turns agree =
    let f : (ℕ → ℕ) = sizes_in words in
    let k : ℕ = x / size in
    let n : ℕ = x / size * size in
    let o : ℕ = x % size in
    let row : Row = get_or rows k free_row in
    let is_at : n + o ≡ x = omega (arith, g.region_size.0) in
    let st = start_at f size rows k n 0 words free_row refl q.known g.rows_right
    (λ e. let f : kinds.Ordinary ≡ kinds.Rest = sym q.kind_is ∙ e in cc) in
    let right : IsRow f size (drop n words) row.used kinds.Ordinary =
    subst (λ (kind : Kind). IsRow f size (drop n words) row.used kind) q.kind_is st.0.row_is in
    let content : List ℕ = take row.used (drop n words) in
    let tile = tile_at-tiles f 0 o o content (Object s) right.1 (omega arith) q.tile_is in
    let done = object_set f content o j v s s' right.1 q.tile_is h turns in
    let old : get_or (regions_of f size words rows) k Free ≡ Ordinary (tiles f 0 content) =
    regions-at f size rows k n words free_row refl q.known ∙ rw q.kind_is refl in
    let inside : o + suc j < size = omega (arith, tile.1, length-take row.used (drop n words), right.0) in
    let place : x + suc j ≡ n + (o + suc j) = omega arith in
    let words' : List ℕ = set words (x + suc j) v in
    let change : IsChange size words words' n = rw place (one_word size words n (o + suc j) v inside) in
    let content_is : take row.used (drop n words') ≡ set content (o + suc j) v = rw place (one_content words n (o + suc j) v row.used) in
    let right' : IsRow f size (drop n words') row.used kinds.Ordinary = (right.0, rw content_is done.tiled) in
    let right'' : IsRow f size (drop n words') row.used row.kind = rw q.kind_is right' in
    let region_is : region_of f (drop n words') row ≡ with_object (get_or (regions_of f size words rows) k Free) o s' =
    rw (q.kind_is, old, content_is) (ap Ordinary done.tiles_are) in
    let w = region_changed size words words' rows (table_of size words rows) k row _ g refl q.known (rw q.kind_is tt)
    (rw q.kind_is tt) change right'' region_is agree in
    rw (set-get_or rows k free_row) at w
