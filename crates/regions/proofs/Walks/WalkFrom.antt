-- Walks of any region, and those that begin at a tile.
use Rattle.regions.proofs.Common.{region_tiles, div-mul-add, mod-mul-add, region_tile, region_kind, AllPositive, total_size, nth_region, []}
use Rattle.regions.proofs.Common.{tile_size, region_at, Ordinary, tiles_of, IsShaped, sizes_in, table_of, tile_at, kind_of, tile_in, Option}
use Rattle.regions.proofs.Common.{IsTable, length, get_or, IsSome, Stored, Object, Region, IsWalk, arith, Table, First, IsCut, zero, Some}
use Rattle.regions.proofs.Common.{None, List, refl, Tile, Free, Rest, ◌≡◌, ◌+◌, ◌-◌, ◌*◌, ◌/◌, ◌%◌, ◌<◌, ◌≤◌, ◌∷◌, ◌∙◌, suc, Row, ap, ℕ}
use Rattle.regions.proofs.Words.Parse.{past}
use Rattle.regions.proofs.Tiles.Laws.{known_region}
use Rattle.regions.proofs.Tiles.Making.{size_is_of}
use Rattle.regions.proofs.Tiles.Shown.{tile_shown, IsShown}
use Rattle.regions.proofs.Walks.WalkMade.{cut_tile, positive_at}
use Rattle.regions.proofs.Tiles.ShapedMade.{tiles_at, first_words, shaped_of}
use Rattle.regions.specs.declared.row.Kind.TheVariants as kinds

pub cut_at : (ts : List Tile) (o : ℕ) (u : Tile) → tile_at o ts ≡ Some u → IsCut o ts × (o + tile_size u ≤ total_size ts)
cut_at [] o u f = cc
cut_at (t ∷ ts) zero u f = let e : t ≡ u = cc in let s : tile_size t ≡ tile_size u = ap tile_size e in (tt, omega arith)
cut_at (t ∷ ts) (suc o) u f =
    let p = past (tile_size t) (suc o) _ u f in
    let i = cut_at ts (suc o - tile_size t) u p.1 in
    ((p.0, i.0), omega (arith, p.0, i.1))

listed : (r : Region) (o : ℕ) (u : Tile) → region_tile r o ≡ Some u → tile_at o (region_tiles r) ≡ Some u
listed (Ordinary ts) o u h = h
listed (First s) zero u h = h
listed _ _ u h = cc

-- a tile of the table is one of its region's
pub tile_listed : (t : Table) (a : ℕ) (u : Tile) → tile_in t a ≡ Some u
    → (tile_at (a % t.words_per_region) (tiles_of t (a / t.words_per_region)) ≡ Some u) × (a / t.words_per_region < length t.regions)
unfolding tile_in region_at tiles_of nth_region
tile_listed t a u h = (listed (get_or t.regions (a / t.words_per_region) Free) (a % t.words_per_region) u h, known_region t.regions _ _ _ h)

-- and a region's tile is one of the table
pub listed_tile : (t : Table) (k o : ℕ) (u : Tile) → IsShaped t → tile_at o (tiles_of t k) ≡ Some u
    → tile_in t (k * t.words_per_region + o) ≡ Some u
unfolding tile_in region_at tiles_of nth_region kind_of
listed_tile t k o u g h = go (get_or t.regions k Free) refl h
  where
    size : ℕ
    size = t.words_per_region

    stands : (r : Region) → get_or t.regions k Free ≡ r → o < size → region_tile r o ≡ Some u
        → region_tile (get_or t.regions ((k * size + o) / size) Free) ((k * size + o) % size) ≡ Some u
    stands r e lt f =
        let d : (k * size + o) / size ≡ k = div-mul-add k size o lt in
        let m : (k * size + o) % size ≡ o = mod-mul-add k size o lt in
        rw (d, m, e) f

    one : (s : Stored) (o : ℕ) → tile_at o (Object s ∷ []) ≡ Some u → (o ≡ 0) × (region_tile (First s) o ≡ Some u)
    one s zero f = (refl, f)
    one s (suc o) f = let p = past (tile_size (Object s)) (suc o) _ u f in absurd (let z : None ≡ Some u = p.1 in cc)

    go : (r : Region) → get_or t.regions k Free ≡ r → tile_at o (region_tiles (get_or t.regions k Free)) ≡ Some u
        → region_tile (get_or t.regions ((k * size + o) / size) Free) ((k * size + o) % size) ≡ Some u
    go (First s) e f =
        let p = one s o (rw e at f) in
        stands (First s) e (omega (arith, p.0, g.positive)) p.1
    go (Ordinary ts) e f =
        let f' : tile_at o ts ≡ Some u = rw e at f in
        let fitting = g.fitting k in
        let room : total_size ts ≤ size = rw e at (fitting.fits (ap region_kind e)) in
        let pos : AllPositive ts = rw e at fitting.positive in
        let c = cut_at ts o u f' in
        let p = positive_at o ts u pos f' in
        stands (Ordinary ts) e (omega (arith, c.1, room, p)) f'
    go _ e f = let z : None ≡ Some u = rw e at f in cc

pub walk_none : (t : Table) (k : ℕ) → k < length t.regions → tiles_of t k ≡ [] → IsWalk t k 0 0
walk_none t k h e = record { known = h; cut = tt; end_is = rw e refl; within = omega arith; positive = rw e tt }

pub walk_free : (t : Table) (k : ℕ) → k < length t.regions → kind_of t k ≡ kinds.Free → IsWalk t k 0 0
unfolding kind_of
walk_free t k h o = go (nth_region t k) refl o
  where
    go : (r : Region) → nth_region t k ≡ r → region_kind r ≡ kinds.Free → IsWalk t k 0 0
    go Free e f = walk_none t k h (tiles_at t k Free e)
    go (Ordinary ts) e f = cc
    go (First s) e f = cc
    go (Rest n) e f = cc

pub walk_rests : (t : Table) (k : ℕ) → k < length t.regions → kind_of t k ≡ kinds.Rest → IsWalk t k 0 0
unfolding kind_of
walk_rests t k h o = go (nth_region t k) refl o
  where
    go : (r : Region) → nth_region t k ≡ r → region_kind r ≡ kinds.Rest → IsWalk t k 0 0
    go Free e f = cc
    go (Ordinary ts) e f = cc
    go (First s) e f = cc
    go (Rest n) e f = walk_none t k h (tiles_at t k (Rest n) e)

pub walk_first : (size : ℕ) (words : List ℕ) (rows : List Row) (t : Table) (k : ℕ) → IsTable size words rows → table_of size words rows ≡ t
    → k < length t.regions → kind_of t k ≡ kinds.First → IsWalk t k 0 (sizes_in words (k * size)) × (k * size < length words)
unfolding kind_of
walk_first size words rows t k g e h o = go (nth_region t k) refl o
  where
    go : (r : Region) → nth_region t k ≡ r → region_kind r ≡ kinds.First
        → IsWalk t k 0 (sizes_in words (k * size)) × (k * size < length words)
    go Free f p = cc
    go (Ordinary ts) f p = cc
    go (First s) f p =
        let w = first_words size words rows t k s g e f in
        let are = tiles_at t k (First s) f in (
          record { known = h; cut = tt; end_is = rw are (omega (arith, w.0)); within = omega arith; positive = rw are (omega arith, tt) },
          omega (arith, w.1),
        )
    go (Rest n) f p = cc

pub begins : (t : Table) (a k o end : ℕ) → IsSome (tile_in t a) → k ≡ a / t.words_per_region
    → o ≡ a % t.words_per_region → IsWalk t k 0 end → IsWalk t k o end
begins t a k o end h f g w = go (tile_in t a) refl h
  where
    go : (u : Option Tile) → tile_in t a ≡ u → IsSome u → IsWalk t k o end
    go None x y = cc
    go (Some u) x y =
        let l = tile_listed t a u x in
        let at : tile_at o (tiles_of t k) ≡ Some u =
        ap (λ (n : ℕ). tile_at n (tiles_of t k)) g ∙ ap (λ (n : ℕ). tile_at (a % t.words_per_region) (tiles_of t n)) f ∙ l.0 in
        let c = cut_at (tiles_of t k) o u at in
        record { known = w.known; cut = c.0; end_is = w.end_is; within = omega (arith, c.1, w.end_is); positive = w.positive }

-- the region of a tile is one of the table's
pub tile_region : (t : Table) (a : ℕ) → IsSome (tile_in t a) → a / t.words_per_region < length t.regions
tile_region t a h = go (tile_in t a) refl h
  where
    go : (u : Option Tile) → tile_in t a ≡ u → IsSome u → a / t.words_per_region < length t.regions
    go None x y = cc
    go (Some u) x y = (tile_listed t a u x).1

-- the tile that a walk comes to
pub record IsBehind (size : ℕ) (words : List ℕ) (t : Table) (k o : ℕ) : Type 0 where
  pub tile : Tile
  pub tile_is : tile_at o (tiles_of t k) ≡ Some tile
  pub stands : tile_in t (k * size + o) ≡ Some tile
  pub shown : IsShown words (k * size + o) tile
  pub size_is : size ≡ t.words_per_region
  pub positive : 0 < tile_size tile

pub behind_is : (size : ℕ) (words : List ℕ) (rows : List Row) (t : Table) (k o : ℕ) → IsTable size words rows → table_of size words rows ≡ t
    → IsCut o (tiles_of t k) → o < total_size (tiles_of t k) → IsBehind size words t k o
behind_is size words rows t k o g e cut within =
    let shape = shaped_of size words rows t g e in
    let size_is = size_is_of size words rows t e in
    let s = cut_tile o (tiles_of t k) cut within in
    let here : tile_in t (k * size + o) ≡ Some s.0 = rw size_is (listed_tile t k o s.0 shape s.1) in
    let fitting = shape.fitting k in
    record {
      tile = s.0;
      tile_is = s.1;
      stands = here;
      shown = tile_shown size words rows t (k * size + o) s.0 g e here;
      size_is = size_is;
      positive = positive_at o (tiles_of t k) s.0 fitting.positive s.1;
    }
