-- A walk over the words of a region.
use Rattle.regions.proofs.Common.{header_of, sizes_in, IsRow, table_of, IsTable, free_row, tile_shape, size_of_shape, Table, kind_of, Tile}
use Rattle.regions.proofs.Common.{Object, Filler, Forwarded, tile_size, tile_at, total_size, size_by, tiles, IsTiled, Kind, Row, ◌≡◌, ◌+◌}
use Rattle.regions.proofs.Common.{◌-◌, ◌*◌, ◌<◌, ◌≤◌, ◌∷◌, ◌∙◌, ℕ, zero, suc, Some, List, [], length, take, drop, get_or, refl, sym, ap}
use Rattle.regions.proofs.Common.{subst, arith, length-take, length-drop, IsCut, IsWalk, AllPositive, tiles_of, region_tiles, le-leb}
use Rattle.regions.proofs.Tiles.Making.{known, kind_is, top_is, tiles_total}
use Rattle.regions.proofs.Words.Parse.{skip_le, tile_size-by, past}
use Rattle.regions.proofs.Rows.RowLemmas.{start_at}
use Rattle.regions.specs.declared.row.Kind.TheVariants as kinds

pub tiles_positive : (f : ℕ → ℕ) (k : ℕ) (ws : List ℕ) → IsTiled f k ws → AllPositive (tiles f k ws)
tiles_positive f k [] h = tt
tiles_positive f zero (w ∷ ws) h =
    let fits = skip_le f (size_by f (header_of w) - 1) ws h.2 in
    let e = tile_size-by f (header_of w) ws fits in
    (omega (arith, h.1), tiles_positive f (size_by f (header_of w) - 1) ws h.2)
tiles_positive f (suc k) (w ∷ ws) h = tiles_positive f k ws h

-- the words of an ordinary region
record IsContent (size : ℕ) (words : List ℕ) (t : Table) (k used : ℕ) : Type 0 where
  pub tiles_are : tiles_of t k ≡ tiles (sizes_in words) 0 (take used (drop (k * size) words))
  pub tiled : IsTiled (sizes_in words) 0 (take used (drop (k * size) words))
  pub length_is : length (take used (drop (k * size) words)) ≡ used
  pub small : k * size + used ≤ length words
  pub size_is : size ≡ t.words_per_region

content_of : (size : ℕ) (words : List ℕ) (rows : List Row) (t : Table) (k : ℕ) → IsTable size words rows → table_of size words rows ≡ t
    → k < length t.regions → kind_of t k ≡ kinds.Ordinary → IsContent size words t k (get_or rows k free_row).used
unfolding tiles_of
content_of size words rows t k g e h o =
    let kn = known size words rows t k e h in
    let is : (get_or rows k free_row).kind ≡ kinds.Ordinary = sym (kind_is size words rows t k kn) ∙ o in
    let top = top_is size words rows t k g e h o in
    let st = start_at (sizes_in words) size rows k (k * size) 0 words free_row refl kn.in_rows g.rows_right
    (λ e. let f : kinds.Ordinary ≡ kinds.Rest = sym is ∙ e in cc) in
    let right : IsRow (sizes_in words) size (drop (k * size) words) (get_or rows k free_row).used kinds.Ordinary =
    subst (λ (kind : Kind). IsRow (sizes_in words) size (drop (k * size) words) (get_or rows k free_row).used kind) is st.0.row_is in
    record {
      tiles_are = ap region_tiles kn.region_is ∙ rw is refl;
      tiled = right.1;
      length_is = simp (length-take, length-drop) (omega (arith, top.room, right.0));
      small = omega (arith, top.room, right.0);
      size_is = kn.size_is;
    }

pub walk_ordinary : (size : ℕ) (words : List ℕ) (rows : List Row) (t : Table) (k : ℕ) → IsTable size words rows
    → table_of size words rows ≡ t → k < length t.regions → kind_of t k ≡ kinds.Ordinary → IsWalk t k 0 (get_or rows k free_row).used
walk_ordinary size words rows t k g e h o =
    let c = content_of size words rows t k g e h o in
    record {
      known = h;
      cut = tt;
      end_is = rw c.tiles_are (let n = tiles_total (sizes_in words) 0 _ c.tiled in omega (arith, c.length_is));
      within = omega arith;
      positive = rw c.tiles_are (tiles_positive (sizes_in words) 0 _ c.tiled);
    }

pub cut_tile : (o : ℕ) (ts : List Tile) → IsCut o ts → o < total_size ts → (t : Tile) × (tile_at o ts ≡ Some t)
cut_tile o [] c h = absurd (omega arith)
cut_tile zero (u ∷ ts) c h = (u, refl)
cut_tile (suc o) (u ∷ ts) c h =
    let i = cut_tile (suc o - tile_size u) ts c.1 (omega (arith, c.0)) in
    (i.0, rw (le-leb (tile_size u) (suc o) c.0) i.1)

pub shape_size_is : (t : Tile) → size_of_shape (tile_shape t) ≡ tile_size t
shape_size_is (Object s) = refl
shape_size_is (Filler n) = refl
shape_size_is (Forwarded to n) = refl

pub positive_at : (o : ℕ) (ts : List Tile) (t : Tile) → AllPositive ts → tile_at o ts ≡ Some t → 0 < tile_size t
positive_at o [] t p f = cc
positive_at zero (u ∷ ts) t p f = let same : u ≡ t = cc in let e : tile_size u ≡ tile_size t = ap tile_size same in omega (arith, p.0)
positive_at (suc o) (u ∷ ts) t p f = positive_at (suc o - tile_size u) ts t p.1 (past (tile_size u) (suc o) _ t f).1
