-- The regions that copies go to, and what a copy changes.
use Rattle.std.specs.Prelude.{◌≡◌, ◌≢◌, ◌⊎◌, ◌≤◌, ◌<◌, ℕ, ◌+◌, List, [], ◌∷◌, ◌++◌, Option, Some, None, length}
use Rattle.heap_model.specs.Heap.{Stored}
use Rattle.regions.specs.Tiles.{Object, Forwarded, tile_size}
use Rattle.regions.specs.Table.{Table, first_free, free_count, kind_of, taken, tile_in, used_of, top_of, push_tile, replace_tile}
use Rattle.regions.specs.declared.row.Kind.TheVariants as kinds

-- the destinations
pub record Destinations : Type 0 where
  -- the regions that were taken, in that order
  pub regions : List ℕ
  -- the one of them that copies go to now
  pub last : Option ℕ
  -- how many more there is room for
  pub room : ℕ
  -- how many words were copied
  pub words : ℕ

-- no region is a destination, and there is room for so many
abbrev pub no_destinations : ℕ → Destinations
no_destinations room = record { regions = []; last = None; room = room; words = 0 }

-- how many words of the open destination are handed out
abbrev pub fill_of : Table → Option ℕ → Option ℕ
fill_of t None = None
fill_of t (Some k) = Some (used_of t k)

-- so many words fit in the open destination, or one of so many regions is free
abbrev pub CanTake : ℕ → ℕ → Option ℕ → ℕ → Type 0
CanTake words free None size = 0 < free
CanTake words free (Some fill) size = (fill + size ≤ words) ⊎ (0 < free)

-- the lowest free region becomes the open destination
pub record OpensLowest (t t' : Table) (d d' : Destinations) (k : ℕ) : Type 0 where
  pub lowest : first_free t ≡ Some k
  pub table : t' ≡ taken t (Some k)
  pub regions : d'.regions ≡ d.regions ++ k ∷ []
  pub last : d'.last ≡ Some k
  pub room : d'.room + 1 ≡ d.room
  pub words : d'.words ≡ d.words

-- a destination for so many words: the open one if they fit there, and then nothing changes, else the lowest free region
pub record Opens (t t' : Table) (d d' : Destinations) (size k : ℕ) : Type 0 where
  pub last : d'.last ≡ Some k
  pub fits : used_of t' k + size ≤ t'.words_per_region
  pub how : ((t' ≡ t) × (d' ≡ d)) ⊎ (OpensLowest t t' d d' k × ((f : ℕ) → fill_of t d.last ≡ Some f → t.words_per_region < f + size))

-- the object at `from` is copied to the top of a destination, and forwarded to its copy
pub record CopiesAndForwards (t t' : Table) (d d' : Destinations) (from to : ℕ) (object : Stored) : Type 0 where
  pub region : ℕ
  pub table : Table
  pub places : Destinations
  pub opens : Opens t table d places (tile_size (Object object)) region
  pub at : to ≡ top_of table region
  pub table_is : t' ≡ replace_tile (push_tile table region (Object object)) from (Forwarded to (tile_size (Object object)) ∷ [])
  pub places_are : d' ≡ record {
    regions = places.regions;
    last = places.last;
    room = places.room;
    words = places.words + tile_size (Object object);
  }

-- what that changes: at `to`, where no tile was, is the object; at `from` a tile of as many words that says so; and region k,
-- the destination, has so many more words handed out
pub record CopiesObject (t t' : Table) (k from to : ℕ) (object : Stored) : Type 0 where
  pub size : t'.words_per_region ≡ t.words_per_region
  pub count : length t'.regions ≡ length t.regions
  pub known : k < length t.regions
  pub ordinary : kind_of t' k ≡ kinds.Ordinary
  pub was_free : (kind_of t k ≡ kinds.Ordinary) ⊎ (kind_of t k ≡ kinds.Free)
  pub kinds_same : (j : ℕ) → j ≢ k → kind_of t' j ≡ kind_of t j
  pub at : to ≡ top_of t k
  pub within : used_of t k + tile_size (Object object) ≤ t.words_per_region
  pub was : tile_in t to ≡ None
  pub copy : tile_in t' to ≡ Some (Object object)
  pub forwarded : tile_in t' from ≡ Some (Forwarded to (tile_size (Object object)))
  pub others : (y : ℕ) → y ≢ from → y ≢ to → tile_in t' y ≡ tile_in t y
  pub used : used_of t' k ≡ used_of t k + tile_size (Object object)
  pub used_same : (j : ℕ) → j ≢ k → used_of t' j ≡ used_of t j
  pub free_same : kind_of t k ≡ kinds.Ordinary → free_count t' ≡ free_count t
  pub free_less : kind_of t k ≡ kinds.Free → free_count t' + 1 ≡ free_count t
