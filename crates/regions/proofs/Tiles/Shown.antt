-- What the tile at an address is.
use Rattle.regions.proofs.Common.{length-append, first_stored, length-drop, tile_shape, header_of, tile_size, Tile}
use Rattle.regions.proofs.Common.{sizes_in, table_of, free_row, shape_by, IsTable, tile_in, tile_by, size_by, IsTiled, Header, ℕ}
use Rattle.regions.proofs.Common.{Object, Option, length, get_or, IsSome, IfSome, IsRow, Table, subst, arith, Kind, ◌++◌, Some, None, List}
use Rattle.regions.proofs.Common.{take, drop, refl, Row, ◌≡◌, ◌+◌, ◌-◌, ◌*◌, ◌/◌, ◌%◌, ◌<◌, ◌≤◌, ◌∷◌, ◌∙◌, suc, sym, inl, inr, [], ap}
use Rattle.regions.proofs.Words.Parse.{skip_le, first_tile, tile_at-tiles}
use Rattle.heap_words.specs.declared.header.ObjectCounts.{ObjectCounts}
use Rattle.heap_words.specs.Contents.{counts_of}
use Rattle.regions.specs.declared.row.Shape.TheVariants as shapes
use Rattle.regions.proofs.Words.Counts.{counted}
use Rattle.regions.proofs.Words.Places.{counts_are, table_right, InOrdinary, InFirst, place_of, split_at, front_word, in_first}
use Rattle.regions.proofs.Rows.RowLemmas.{start_at}
use Rattle.heap_words.specs.declared.header.Header.TheVariants as headers
use Rattle.regions.specs.declared.row.Kind.TheVariants as kinds

shape_tile : (f : ℕ → ℕ) (o : Option Header) (ws : List ℕ) → size_by f o - 1 ≤ length ws → tile_shape (tile_by f ws o) ≡ shape_by f o
shape_tile f (Some (headers.Object p weak d)) ws h =
    ap (λ (c : ObjectCounts). shapes.Object c.pointers (c.weaks + c.held) c.values) (counts_are p weak 0 d ws (omega arith))
shape_tile f (Some (headers.Pairs p n d)) ws h =
    ap (λ (c : ObjectCounts). shapes.Object c.pointers (c.weaks + c.held) c.values) (counts_are p n n d ws (omega arith))
shape_tile f _ ws h = refl

counted_shape : (f : ℕ → ℕ) (o : Option Header) (c : ObjectCounts) → counts_of o ≡ Some c
    → shape_by f o ≡ shapes.Object c.pointers (c.weaks + c.held) c.values
counted_shape f (Some (headers.Object p weak d)) c e =
    let same : counted p weak 0 d ≡ c = cc in ap (λ (k : ObjectCounts). shapes.Object k.pointers (k.weaks + k.held) k.values) same
counted_shape f (Some (headers.Pairs p n d)) c e =
    let same : counted p n n d ≡ c = cc in ap (λ (k : ObjectCounts). shapes.Object k.pointers (k.weaks + k.held) k.values) same
counted_shape f _ c e = cc

pub record IsShown (words : List ℕ) (x : ℕ) (tile : Tile) : Type 0 where
  pub in_words : x < length words
  pub shape_is : shape_by (sizes_in words) (header_of (get_or words x 0)) ≡ tile_shape tile

pub shown_front : (v u words : List ℕ) (x : ℕ) (tile : Tile) → drop x words ≡ v ++ u → tile_size tile ≤ length v
    → IsTiled (sizes_in words) 0 v → first_tile (sizes_in words) v ≡ tile → IsShown words x tile
shown_front [] u words x tile e z t h = let one : 1 ≡ tile_size tile = ap tile_size h in absurd (omega arith)
shown_front (w ∷ v) u words x tile e z t h =
    let f : (ℕ → ℕ) = sizes_in words in
    let fits = skip_le f (size_by f (header_of w) - 1) v t.2 in
    let word : get_or words x 0 ≡ w = front_word words x w (v ++ u) e in
    let whole : length (drop x words) ≡ suc (length v) + length u = rw e (length-append (w ∷ v) u) in
    record {
      in_words = omega (arith, length-drop x words);
      shape_is = ap (λ (a : ℕ). shape_by f (header_of a)) word ∙ sym (shape_tile f (header_of w) v fits) ∙ ap tile_shape h;
    }

shown_ordinary : (size : ℕ) (words : List ℕ) (rows : List Row) (x : ℕ) (tile : Tile) → IsTable size words rows
    → InOrdinary (sizes_in words) size words rows x tile → IsShown words x tile
shown_ordinary size words rows x tile g q =
    let n : ℕ = x / size * size in
    let o : ℕ = x % size in
    let row : Row = get_or rows (x / size) free_row in
    let is_at : n + o ≡ x = omega (arith, g.region_size.0) in
    let st = start_at (sizes_in words) size rows (x / size) n 0 words free_row refl q.known g.rows_right
    (λ e. let f : kinds.Ordinary ≡ kinds.Rest = sym q.kind_is ∙ e in cc) in
    let right : IsRow (sizes_in words) size (drop n words) row.used kinds.Ordinary =
    subst (λ (kind : Kind). IsRow (sizes_in words) size (drop n words) row.used kind) q.kind_is st.0.row_is in
    let here = tile_at-tiles (sizes_in words) 0 o o (take row.used (drop n words)) tile right.1 (omega arith) q.tile_is in
    let rest = split_at words n o x row.used is_at (omega (arith, here.1)) in
    shown_front (drop o (take row.used (drop n words))) _ words x tile rest
    (omega (arith, here.1, length-drop o (take row.used (drop n words)))) here.2 here.0

pub tile_shown : (size : ℕ) (words : List ℕ) (rows : List Row) (t : Table) (x : ℕ) (tile : Tile) → IsTable size words rows
    → table_of size words rows ≡ t → tile_in t x ≡ Some tile → IsShown words x tile
tile_shown size words rows t x tile g e h =
    elim (place_of (sizes_in words) size words rows x tile (ap (λ (u : Table). tile_in u x) e ∙ h)) [
      | inl q ↦ shown_ordinary size words rows x tile g q
      | inr q ↦ rw q.tile_is (first_shown size words rows x g
          (record { known = q.known; kind_is = q.kind_is; at_bottom = q.at_bottom; tile_is = refl }))
    ]
  where
    first_shown : (size : ℕ) (words : List ℕ) (rows : List Row) (x : ℕ) → IsTable size words rows
        → InFirst (sizes_in words) size words rows x (Object (first_stored (drop (x / size * size) words)))
        → IsShown words x (Object (first_stored (drop (x / size * size) words)))
    first_shown size words rows x g q =
        let i = in_first (sizes_in words) size words rows x (first_stored (drop (x / size * size) words)) (table_right g) q in
        record { in_words = omega (arith, i.fits); shape_is = counted_shape (sizes_in words) (header_of (get_or words x 0)) _ i.header_is }

pub some_tile : (o : Option Tile) → IsSome o → (tile : Tile) × (o ≡ Some tile)
some_tile None h = cc
some_tile (Some t) h = (t, refl)

pub shown_there : (size : ℕ) (words : List ℕ) (rows : List Row) (t : Table) (x : ℕ) → IsTable size words rows → table_of size words rows ≡ t
    → IsSome (tile_in t x) → IfSome (tile_in t x) (λ tile. shape_by (sizes_in words) (header_of (get_or words x 0)) ≡ tile_shape tile)
shown_there size words rows t x g e h =
    let s = some_tile (tile_in t x) h in
    let i = tile_shown size words rows t x s.0 g e s.1 in
    rw s.1 i.shape_is
