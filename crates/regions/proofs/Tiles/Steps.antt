-- From a tile of a region to the one behind it.
use Rattle.regions.proofs.Common.{◌≡◌, ◌≢◌, ◌+◌, ◌*◌, ◌/◌, ◌%◌, ◌<◌, ◌≤◌, ◌∙◌, ℕ, zero, Option, Some, None, refl, sym, ap, subst, arith}
use Rattle.regions.proofs.Common.{IsSome, Tile, tile_size, total_size, Region, Ordinary, First, Table, region_at, region_kind, nth_region}
use Rattle.regions.proofs.Common.{region_tile, region_used, kind_of, used_of, top_of, tile_in, tiles_of, region_tiles, IsNextTile, IsShaped}
use Rattle.regions.specs.Walks.{IsLast}
use Rattle.regions.proofs.Tiles.Placing.{ordinary_at}
use Rattle.regions.proofs.Tiles.Released.{tile_below_top, used_within}
use Rattle.regions.proofs.Walks.WalkFrom.{cut_at, tile_listed, listed_tile}
use Rattle.regions.proofs.Walks.WalkLaws.{cut_step}
use Rattle.regions.proofs.Walks.WalkMade.{cut_tile}
use Rattle.regions.proofs.Walks.WalkTiles.{apart}
use Rattle.regions.proofs.Tiles.Within.{tile_positive}
use Rattle.regions.proofs.Words.Divides.{div_is}
use Rattle.regions.specs.declared.row.Kind.TheVariants as kinds

pub tile_there : (t : Table) (a : ℕ) → IsSome (tile_in t a) → (u : Tile) × (tile_in t a ≡ Some u)
tile_there t a h = go (tile_in t a) refl h
  where
    go : (o : Option Tile) → tile_in t a ≡ o → IsSome o → (u : Tile) × (tile_in t a ≡ Some u)
    go None e x = cc
    go (Some u) e x = (u, e)

pub some_tile : (o : Option Tile) (u : Tile) → o ≡ Some u → IsSome o
some_tile o u e = rw e refl

pub used_total : (t : Table) (k : ℕ) → kind_of t k ≡ kinds.Ordinary → used_of t k ≡ total_size (tiles_of t k)
unfolding kind_of used_of tiles_of
used_total t k o =
    let q = ordinary_at (nth_region t k) o in
    ap (region_used t.words_per_region) q.is ∙ sym (ap (λ (r : Region). total_size (region_tiles r)) q.is)

-- a tile of an ordinary region lies below its top
pub tile_low : (t : Table) (a : ℕ) (u : Tile) → IsShaped t → tile_in t a ≡ Some u → kind_of t (a / t.words_per_region) ≡ kinds.Ordinary
    → a + tile_size u ≤ top_of t (a / t.words_per_region)
tile_low t a u g e o =
    let z = g.positive in
    let whole : a / t.words_per_region * t.words_per_region + a % t.words_per_region ≡ a = omega arith in
    let less : a % t.words_per_region < t.words_per_region = omega arith in
    tile_below_top t a (a / t.words_per_region) u g o (omega arith) (omega arith) e

region_of_tile : (t : Table) (a : ℕ) (u : Tile) → tile_in t a ≡ Some u
    → region_tile (nth_region t (a / t.words_per_region)) (a % t.words_per_region) ≡ Some u
unfolding tile_in region_at nth_region
region_of_tile t a u e = e

other_kind : (t : Table) (k : ℕ) → kind_of t k ≢ kinds.Ordinary → region_kind (nth_region t k) ≢ kinds.Ordinary
unfolding kind_of
other_kind t k n = n

-- a region that isn't ordinary has one tile at most
lone : (r : Region) (o o' : ℕ) (u v : Tile) → region_kind r ≢ kinds.Ordinary → region_tile r o ≡ Some u → region_tile r o' ≡ Some v → o ≡ o'
lone (Ordinary ts) o o' u v n e f = absurd (n refl)
lone (First s) zero zero u v n e f = refl
lone _ _ _ u v n e f = absurd cc

module _ (t : Table) (g : IsShaped t) (a : ℕ) (u : Tile) (e : tile_in t a ≡ Some u) where
  abbrev k : ℕ
  k = a / t.words_per_region

  abbrev next : ℕ
  next = a + tile_size u

  between : (b : ℕ) (v : Tile) → a < b → b / t.words_per_region ≡ k → tile_in t b ≡ Some v → next ≤ b
  between b v h r f = apart t a b u v g.positive r e f h

  module _ (o : kind_of t k ≡ kinds.Ordinary) where
    pub next_is : next < top_of t k → IsNextTile t a next
    next_is h =
        let z = g.positive in
        let whole : a / t.words_per_region * t.words_per_region + a % t.words_per_region ≡ a = omega arith in
        let l = tile_listed t a u e in
        let c = cut_at (tiles_of t k) (a % t.words_per_region) u l.0 in
        let positive = tile_positive t a u g e in
        let s = cut_step (a % t.words_per_region) (a % t.words_per_region + tile_size u) (tiles_of t k) u c.0 l.0 positive refl in
        let used = used_total t k o in
        let within = used_within t k g.fitting o in
        let (v, f) = cut_tile (a % t.words_per_region + tile_size u) (tiles_of t k) s.cut (omega arith) in
        let there = listed_tile t k (a % t.words_per_region + tile_size u) v g f in
        let same : k * t.words_per_region + (a % t.words_per_region + tile_size u) ≡ next = omega arith in
        let region : next / t.words_per_region ≡ k = div_is next t.words_per_region k (omega arith) (omega arith) in
        record {
          tile = subst (λ (m : ℕ). IsSome (tile_in t m)) same (some_tile _ v there);
          above = omega arith;
          region = region;
          between = λ b w low high is.
              let r : b / t.words_per_region ≡ k = div_is b t.words_per_region k (omega arith) (omega arith) in
              let n = between b w low r is in
              absurd (omega arith);
        }

    pub last_is : top_of t k ≤ next → IsLast t a
    last_is h b v low r f =
        let n = between b v low r f in
        let o' : kind_of t (b / t.words_per_region) ≡ kinds.Ordinary = ap (kind_of t) r ∙ o in
        let m = tile_low t b v g f o' in
        let p = tile_positive t b v g f in
        let same = ap (top_of t) r in
        absurd (omega arith)

  pub last_else : kind_of t k ≢ kinds.Ordinary → IsLast t a
  last_else n b v low r f =
      let z = g.positive in
      let whole : a / t.words_per_region * t.words_per_region + a % t.words_per_region ≡ a = omega arith in
      let whole_b : b / t.words_per_region * t.words_per_region + b % t.words_per_region ≡ b = omega arith in
      let fb = ap (λ (m : ℕ). region_tile (nth_region t m) (b % t.words_per_region)) (sym r) ∙ region_of_tile t b v f in
      let same =
      lone (nth_region t k) (a % t.words_per_region) (b % t.words_per_region) u v (other_kind t k n) (region_of_tile t a u e) fb in
      let row = ap (λ (m : ℕ). m * t.words_per_region) r in
      absurd (omega arith)

-- the first tile of an ordinary region that isn't empty
pub bottom_tile : (t : Table) (k : ℕ) → IsShaped t → kind_of t k ≡ kinds.Ordinary → 0 < used_of t k
    → (v : Tile) × (tile_in t (k * t.words_per_region) ≡ Some v)
bottom_tile t k g o h =
    let used = used_total t k o in
    let (v, f) = cut_tile 0 (tiles_of t k) tt (omega arith) in
    let z : k * t.words_per_region + 0 ≡ k * t.words_per_region = omega arith in
    (v, ap (tile_in t) (sym z) ∙ listed_tile t k 0 v g f)
