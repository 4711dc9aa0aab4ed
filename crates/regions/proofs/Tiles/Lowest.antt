-- The lowest tile of a region.
use Rattle.regions.proofs.Common.{◌≡◌, ℕ, ◌+◌, ◌*◌, ◌/◌, ◌%◌, ◌<◌, ◌≤◌, Some, sym, ap, ◌∙◌, arith, div-mul-add, Tile, tile_size, tile_at}
use Rattle.regions.proofs.Common.{total_size, Table, tile_in, tiles_of, IsWalk, IsShaped}
use Rattle.regions.specs.Walks.{StartsIn}
use Rattle.regions.proofs.Walks.WalkFrom.{cut_at, tile_listed, listed_tile}
use Rattle.regions.proofs.Walks.WalkMade.{cut_tile, positive_at}

-- a tile of region k, by its offset
record IsAt (t : Table) (k a : ℕ) : Type 0 where
  pub tile : Tile
  pub listed_is : tile_at (a % t.words_per_region) (tiles_of t k) ≡ Some tile
  pub here : tile_in t a ≡ Some tile
  pub place : a ≡ k * t.words_per_region + a % t.words_per_region
  pub fits : a % t.words_per_region + tile_size tile ≤ total_size (tiles_of t k)

at_of : (t : Table) (k a : ℕ) → StartsIn t k a → IsAt t k a
at_of t k a s =
    let l = tile_listed t a s.tile s.tile_is in
    let whole : a / t.words_per_region * t.words_per_region + a % t.words_per_region ≡ a = omega arith in
    let listed_is : tile_at (a % t.words_per_region) (tiles_of t k) ≡ Some s.tile =
    ap (λ (n : ℕ). tile_at (a % t.words_per_region) (tiles_of t n)) (sym s.region) ∙ l.0 in
    record {
      tile = s.tile;
      listed_is = listed_is;
      here = s.tile_is;
      place = sym whole ∙ ap (λ (n : ℕ). n * t.words_per_region + a % t.words_per_region) s.region;
      fits = (cut_at (tiles_of t k) (a % t.words_per_region) s.tile listed_is).1;
    }

pub none_lowest : (t : Table) (k end : ℕ) → IsWalk t k 0 end → end ≡ 0 → (b : ℕ) → StartsIn t k b → ⊥
none_lowest t k end w e b s =
    let a = at_of t k b s in
    let z = positive_at (b % t.words_per_region) (tiles_of t k) a.tile w.positive a.listed_is in
    omega (arith, a.fits, w.end_is, z)

pub some_lowest : (t : Table) (k end : ℕ) → IsShaped t → IsWalk t k 0 end → 0 < end
    → StartsIn t k (k * t.words_per_region) × ((b : ℕ) → StartsIn t k b → k * t.words_per_region ≤ b)
some_lowest t k end g w z =
    let first = cut_tile 0 (tiles_of t k) w.cut (omega (arith, w.end_is)) in
    let none : k * t.words_per_region + 0 ≡ k * t.words_per_region = omega arith in
    let here = ap (tile_in t) (sym none) ∙ listed_tile t k 0 first.0 g first.1 in
    let region : k * t.words_per_region / t.words_per_region ≡ k =
    ap (λ n. n / t.words_per_region) (sym none) ∙ div-mul-add k t.words_per_region 0 g.positive in
    (record { tile = first.0; tile_is = here; region = region }, λ b s. let a = at_of t k b s in omega (arith, a.place))
