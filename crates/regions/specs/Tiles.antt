-- Tiles: what the words of a region say, from its bottom to its top.
use Rattle.std.specs.Prelude.{◌≡◌, ◌+◌, ◌-◌, ◌<◌, ◌∷◌, ◌++◌, if◌then◌else◌}
use Rattle.std.specs.Prelude.{ℕ, zero, suc, Option, Some, None, List, [], length, take, drop, map, slice_index, nat_le}
use Rattle.heap_words.specs.Sizes.{size_of}
use Rattle.heap_model.specs.Heap.{Stored}
use Rattle.heap_words.specs.declared.header.Header.{Header}
use Rattle.heap_words.specs.declared.header.Header.TheVariants as headers
use Rattle.heap_words.specs.Headers.{header_of, pointer_of}

-- an object, a filler of so many words, or an object that went to an address, of so many words
pub data Tile : Type 0 where
  Object : Stored → Tile
  Filler : ℕ → Tile
  Forwarded : ℕ → ℕ → Tile

-- the words of a tile
abbrev pub tile_size : Tile → ℕ
tile_size (Object s) = size_of (length s.pointers) (length s.weaks + length s.held) (length s.values)
tile_size (Filler n) = n
tile_size (Forwarded to n) = n

-- the words of tiles
abbrev pub total_size : List Tile → ℕ
total_size [] = 0
total_size (t ∷ ts) = tile_size t + total_size ts

-- the tile that starts at an offset from the first one
abbrev pub tile_at : ℕ → List Tile → Option Tile
tile_at o [] = None
tile_at zero (t ∷ ts) = Some t
tile_at (suc o) (t ∷ ts) = if nat_le (tile_size t) (suc o) then tile_at (suc o - tile_size t) ts else None

-- the tile that starts at an offset gives way to these
abbrev pub replace : ℕ → List Tile → List Tile → List Tile
replace o new [] = []
replace zero new (t ∷ ts) = new ++ ts
replace (suc o) new (t ∷ ts) = t ∷ replace (suc o - tile_size t) new ts

-- the object of a header with p pointers, so many weak slots and held slots, and d data words, the rest of its words first in ws
abbrev pub stored_of : ℕ → ℕ → ℕ → ℕ → List ℕ → Stored
stored_of p weak held d ws = record {
  name = slice_index ws 0;
  pointers = map pointer_of (take p (drop 1 ws));
  weaks = map pointer_of (take weak (drop (suc p) ws));
  held = map pointer_of (take held (drop (suc (p + weak)) ws));
  values = take d (drop (suc (p + (weak + held))) ws);
}

-- the tile of a header, the rest of whose words are first in ws; sizes tells the size of the object at an address, for one that moved there
abbrev pub tile_by : (ℕ → ℕ) → List ℕ → Option Header → Tile
tile_by sizes ws None = Filler 1
tile_by sizes ws (Some (headers.Object p weak d)) = Object (stored_of p weak 0 d ws)
tile_by sizes ws (Some (headers.Pairs p n d)) = Object (stored_of p n n d ws)
tile_by sizes ws (Some (headers.Filler n)) = Filler n
tile_by sizes ws (Some (headers.Forwarded to)) = Forwarded to (sizes to)

-- how many words the tile of a header has
abbrev pub size_by : (ℕ → ℕ) → Option Header → ℕ
size_by sizes None = 1
size_by sizes (Some (headers.Object p weak d)) = size_of p (weak + 0) d
size_by sizes (Some (headers.Pairs p n d)) = size_of p (n + n) d
size_by sizes (Some (headers.Filler n)) = n
size_by sizes (Some (headers.Forwarded to)) = sizes to

-- the tiles of words, the first k of which belong to a tile that began before them
abbrev pub tiles : (ℕ → ℕ) → ℕ → List ℕ → List Tile
tiles sizes k [] = []
tiles sizes zero (w ∷ ws) = tile_by sizes ws (header_of w) ∷ tiles sizes (size_by sizes (header_of w) - 1) ws
tiles sizes (suc k) (w ∷ ws) = tiles sizes k ws

-- the header of a tile: an object without a pair has the header of one that can't have pairs
abbrev pub IsTileHeader : Option Header → Type 0
IsTileHeader None = ⊥
IsTileHeader (Some (headers.Object p weak d)) = Unit {0}
IsTileHeader (Some (headers.Pairs p n d)) = 0 < n
IsTileHeader (Some (headers.Filler n)) = Unit {0}
IsTileHeader (Some (headers.Forwarded to)) = Unit {0}

-- tiles follow one another exactly to the end
abbrev pub IsTiled : (ℕ → ℕ) → ℕ → List ℕ → Type 0
IsTiled sizes k [] = k ≡ 0
IsTiled sizes zero (w ∷ ws) =
    IsTileHeader (header_of w) × (0 < size_by sizes (header_of w)) × IsTiled sizes (size_by sizes (header_of w) - 1) ws
IsTiled sizes (suc k) (w ∷ ws) = IsTiled sizes k ws
