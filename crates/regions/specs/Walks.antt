-- A walk over a region's tiles.
use Rattle.std.specs.Prelude.{◌≡◌, ℕ, zero, suc, ◌+◌, ◌-◌, ◌*◌, ◌/◌, ◌<◌, ◌≤◌, ◌⊎◌, List, [], ◌∷◌, Option, Some, None, IsSome, length}
use Rattle.regions.specs.declared.row.Shape.{Shape}
use Rattle.regions.specs.Shapes.{tile_shape}
use Rattle.regions.specs.Tiles.{Tile, Object, tile_size, total_size, tile_at}
use Rattle.regions.specs.Table.{Region, Ordinary, First, Table, nth_region, kind_of, tile_in}
use Rattle.regions.specs.declared.row.Kind.TheVariants as kinds
use Rattle.heap_words.specs.declared.addr.Addr.{Addr}

-- the tiles that start in a region: a run's first region has its one object
abbrev pub region_tiles : Region → List Tile
region_tiles (Ordinary ts) = ts
region_tiles (First s) = Object s ∷ []
region_tiles _ = []

-- the tiles of region k
unfoldable pub tiles_of : Table → ℕ → List Tile
tiles_of t k = region_tiles (nth_region t k)

-- the tiles with their addresses
abbrev pub placed : ℕ → List Tile → List (Addr × Shape)
placed a [] = []
placed a (t ∷ ts) = (a, tile_shape t) ∷ placed (a + tile_size t) ts

-- the tiles from an offset on
abbrev pub tiles_from : ℕ → List Tile → List Tile
tiles_from zero ts = ts
tiles_from (suc o) [] = []
tiles_from (suc o) (t ∷ ts) = tiles_from (suc o - tile_size t) ts

-- what is left to walk
abbrev pub walk_rest : Table → ℕ → ℕ → List (Addr × Shape)
walk_rest t k o = placed (k * t.words_per_region + o) (tiles_from o (tiles_of t k))

-- a tile or the end is at the offset
abbrev pub IsCut : ℕ → List Tile → Type 0
IsCut zero ts = Unit {0}
IsCut (suc o) [] = ⊥
IsCut (suc o) (t ∷ ts) = (tile_size t ≤ suc o) × IsCut (suc o - tile_size t) ts

-- no tile is empty
abbrev pub AllPositive : List Tile → Type 0
AllPositive [] = Unit {0}
AllPositive (t ∷ ts) = (0 < tile_size t) × AllPositive ts

-- a walk stands at an offset of region k, whose tiles have `end` words
pub record IsWalk (t : Table) (k o end : ℕ) : Type 0 where
  pub known : k < length t.regions
  pub cut : IsCut o (tiles_of t k)
  pub end_is : total_size (tiles_of t k) ≡ end
  pub within : o ≤ end
  pub positive : AllPositive (tiles_of t k)

-- the tile at the offset, and where it is
pub record IsTileBehind (t : Table) (k o : ℕ) (r : Addr × Shape × ℕ) : Type 0 where
  pub tile : Tile
  pub tile_is : tile_at o (tiles_of t k) ≡ Some tile
  pub at_is : r.0 ≡ k * t.words_per_region + o
  pub shape_is : r.1 ≡ tile_shape tile
  pub size_is : r.2 ≡ tile_size tile
  pub positive : 0 < r.2

-- a tile of this shape starts at the address
pub record IsPlacedTile (t : Table) (a : ℕ) (shape : Shape) : Type 0 where
  pub tile : Tile
  pub tile_is : tile_in t a ≡ Some tile
  pub shape_is : shape ≡ tile_shape tile

-- the address is among those of a walk
abbrev pub IsAmong : ℕ → List (Addr × Shape) → Type 0
IsAmong a [] = ⊥
IsAmong a (x ∷ xs) = (x.0 ≡ a) ⊎ IsAmong a xs

-- each item of a walk is a tile of the table, and their addresses rise
abbrev pub ArePlaced : Table → List (Addr × Shape) → Type 0
ArePlaced t [] = Unit {0}
ArePlaced t (x ∷ xs) = IsPlacedTile t x.0 x.1 × ((a : ℕ) → IsAmong a xs → x.0 ≤ a) × ArePlaced t xs

-- word w is one of the tile that starts at a
pub record IsHolder (t : Table) (a w : ℕ) : Type 0 where
  pub tile : Tile
  pub tile_is : tile_in t a ≡ Some tile
  pub low : a ≤ w
  pub high : w < a + tile_size tile

-- no tile of region k is empty, and an ordinary region holds its tiles
pub record IsFitting (t : Table) (k : ℕ) : Type 0 where
  pub positive : AllPositive (tiles_of t k)
  pub fits : kind_of t k ≡ kinds.Ordinary → total_size (tiles_of t k) ≤ t.words_per_region

-- the same of every region
abbrev pub AreFitting : Table → Type 0
AreFitting t = (k : ℕ) → IsFitting t k

-- this region, or the first of the run that it is a later one of
pub record IsRunStart (t : Table) (region first : ℕ) : Type 0 where
  pub below : first ≤ region
  pub rest : (k : ℕ) → first < k → k ≤ region → kind_of t k ≡ kinds.Rest
  pub start : kind_of t first ≡ kinds.Rest → first ≡ 0

-- a tile starts at an address of region k
pub record StartsIn (t : Table) (k a : ℕ) : Type 0 where
  pub tile : Tile
  pub tile_is : tile_in t a ≡ Some tile
  pub region : a / t.words_per_region ≡ k

-- the lowest address of region k at which a tile starts, none where there is none
abbrev pub IsLowestTile : Table → ℕ → Option ℕ → Type 0
IsLowestTile t k None = (b : ℕ) → StartsIn t k b → ⊥
IsLowestTile t k (Some a) = StartsIn t k a × ((b : ℕ) → StartsIn t k b → a ≤ b)

-- the tile behind the one at an address
pub record IsNextTile (t : Table) (at next : ℕ) : Type 0 where
  pub tile : IsSome (tile_in t next)
  pub above : at < next
  pub region : next / t.words_per_region ≡ at / t.words_per_region
  pub between : (b : ℕ) (u : Tile) → at < b → b < next → tile_in t b ≡ Some u → ⊥

-- none of the region's tiles stands behind the one at an address
abbrev pub IsLast : Table → ℕ → Type 0
IsLast t at = (b : ℕ) (u : Tile) → at < b → b / t.words_per_region ≡ at / t.words_per_region → tile_in t b ≡ Some u → ⊥
