-- How the words of the heap are read as regions.
use Rattle.std.specs.Prelude.{◌≡◌, ◌+◌, ◌-◌, ◌*◌, ◌^◌, ◌<◌, ◌≤◌, ◌∷◌, ℕ, zero, suc, min, Bool, true, false, Option, Some, None, List, []}
use Rattle.std.specs.Prelude.{length, take, drop, slice_index, slice_set, slice_index_or, count_by}
use Rattle.heap_words.specs.Contents.{object_size}
use Rattle.heap_words.specs.Configs.{max_words, max_region_words}
use Rattle.heap_words.specs.declared.header.Header.{Header}
use Rattle.heap_words.specs.declared.header.Header.TheVariants as headers
use Rattle.heap_words.specs.Headers.{header_of, header_word}
use Rattle.heap_words.specs.Memory.{Memory}
use Rattle.heap_model.specs.Heap.{Stored}
use Rattle.regions.specs.Tiles.{Tile, tile_size, stored_of, tiles, IsTiled}
use Rattle.regions.specs.Table.{Region, Free, Ordinary, First, Rest, Table, HasTargets, tile_in}
use Rattle.regions.specs.FirstTiles.{Entries, AreEntries}
use Rattle.regions.specs.Shaped.{AreBare}
use Rattle.regions.specs.WeakStarts.{Starts, AreStarts}
use Rattle.regions.specs.declared.row.Row.{Row}
use Rattle.regions.specs.declared.row.Kind.{Kind}
use Rattle.regions.specs.declared.row.Kind.TheVariants as kinds

-- the size of the object at an address
abbrev pub sizes_in : List ℕ → ℕ → ℕ
sizes_in words a = object_size (header_of (slice_index words a))

-- where a header's object went
abbrev pub header_target : Option Header → Option ℕ
header_target None = None
header_target (Some (headers.Object p weak d)) = None
header_target (Some (headers.Pairs p n d)) = None
header_target (Some (headers.Filler n)) = None
header_target (Some (headers.Forwarded to)) = Some to

-- the object of a header
abbrev pub stored_by : List ℕ → Option Header → Stored
stored_by ws (Some (headers.Object p weak d)) = stored_of p weak 0 d ws
stored_by ws (Some (headers.Pairs p n d)) = stored_of p n n d ws
stored_by ws _ = stored_of 0 0 0 0 ws

-- the object that words begin with
abbrev pub first_stored : List ℕ → Stored
first_stored [] = stored_of 0 0 0 0 []
first_stored (w ∷ ws) = stored_by ws (header_of w)

-- the region whose words begin ws
abbrev pub region_by : (ℕ → ℕ) → List ℕ → ℕ → Kind → Region
region_by sizes ws used kinds.Free = Free
region_by sizes ws used kinds.Ordinary = Ordinary (tiles sizes 0 (take used ws))
region_by sizes ws used kinds.First = First (first_stored ws)
region_by sizes ws used kinds.Rest = Rest used

-- the region of a row
abbrev pub region_of : (ℕ → ℕ) → List ℕ → Row → Region
region_of sizes ws row = region_by sizes ws row.used row.kind

-- the regions of rows, `size` words each
abbrev pub regions_of : (ℕ → ℕ) → ℕ → List ℕ → List Row → List Region
regions_of sizes size ws [] = []
regions_of sizes size ws (row ∷ rows) = region_of sizes ws row ∷ regions_of sizes size (drop size ws) rows

-- the header is an object's
abbrev pub IsObjectHeader : Option Header → Type 0
IsObjectHeader (Some (headers.Object p weak d)) = Unit {0}
IsObjectHeader (Some (headers.Pairs p n d)) = 0 < n
IsObjectHeader _ = ⊥

-- a row that is no later one of a run says what the words of its region are
abbrev pub IsRow : (ℕ → ℕ) → ℕ → List ℕ → ℕ → Kind → Type 0
IsRow sizes size ws used kinds.Free = used ≡ 0
IsRow sizes size ws used kinds.Ordinary = (used ≤ size) × IsTiled sizes 0 (take used ws)
IsRow sizes size ws used kinds.First =
    IsObjectHeader (header_of (slice_index ws 0)) × (used ≡ min size (object_size (header_of (slice_index ws 0))))
IsRow sizes size ws used kinds.Rest = ⊥

-- the row of a later region of a run, from whose start on `left` words are the object's
abbrev pub IsRestRow : ℕ → ℕ → ℕ → Kind → Type 0
IsRestRow size left used kinds.Rest = used ≡ min size left
IsRestRow size left used _ = ⊥

-- the words of a humongous object behind its first region
abbrev pub left_by : ℕ → List ℕ → Kind → ℕ
left_by size ws kinds.First = object_size (header_of (slice_index ws 0)) - size
left_by size ws _ = 0

-- rows are right, the first `left` words belonging to an object that began before them
abbrev pub AreRows : (ℕ → ℕ) → ℕ → ℕ → List ℕ → List Row → Type 0
AreRows sizes size left ws [] = left ≡ 0
AreRows sizes size zero ws (row ∷ rows) =
    IsRow sizes size ws row.used row.kind × AreRows sizes size (left_by size ws row.kind) (drop size ws) rows
AreRows sizes size (suc left) ws (row ∷ rows) =
    IsRestRow size (suc left) row.used row.kind × AreRows sizes size (suc left - size) (drop size ws) rows

-- the table that callers see
abbrev pub table_of : ℕ → List ℕ → List Row → Table
table_of size words rows = record { words_per_region = size; regions = regions_of (sizes_in words) size words rows }

-- the same, with other sizes of what moved
abbrev pub table_by : (ℕ → ℕ) → ℕ → List ℕ → List Row → Table
table_by f size words rows = record { words_per_region = size; regions = regions_of f size words rows }

-- words and rows are a table's, with these sizes of what moved
pub record IsTableBy (f : ℕ → ℕ) (size : ℕ) (words : List ℕ) (rows : List Row) : Type 0 where
  pub region_size : (0 < size) × (size ≤ max_region_words)
  pub covers : length words ≡ length rows * size
  pub small : length words ≤ max_words
  pub rows_right : AreRows f size 0 words rows

-- words and rows are a table's
pub record IsTable (size : ℕ) (words : List ℕ) (rows : List Row) : Type 0 where
  pub region_size : (0 < size) × (size ≤ max_region_words)
  pub covers : length words ≡ length rows * size
  pub small : length words ≤ max_words
  pub rows_right : AreRows (sizes_in words) size 0 words rows
  pub targets : HasTargets (table_of size words rows)

-- whether a row is free
abbrev pub kind_is_free : Kind → Bool
kind_is_free kinds.Free = true
kind_is_free _ = false

-- the row of a free region
abbrev pub free_row : Row
free_row = record { kind = kinds.Free; used = 0 }

-- how many rows are free
abbrev pub free_row_count : List Row → ℕ
free_row_count rows = count_by (λ row. kind_is_free row.kind) rows

-- no row below n is free
abbrev pub AreUsedBelow : ℕ → List Row → Type 0
AreUsedBelow n rows = (k : ℕ) → k < n → kind_is_free (slice_index_or rows k free_row).kind ≡ false

-- each row from n on is free
abbrev pub AreFreeFrom : ℕ → List Row → Type 0
AreFreeFrom n rows = (k : ℕ) → n ≤ k → kind_is_free (slice_index_or rows k free_row).kind ≡ true

-- each tile stands in the first n words
pub record AreTilesWritten (t : Table) (n : ℕ) : Type 0 where
  pub each : (a : ℕ) (tile : Tile) → tile_in t a ≡ Some tile → a + tile_size tile ≤ n

-- words and rows are a table's, with 2 ^ shift words a region, which are whole cards; each tile stands in the words that are
-- written; no row below `lowest` is free; `free` rows are; each card's entry leads to its tile; and `weaks` tells where objects with weak
-- slots start, and whether there may be objects of pairs among them
pub record IsRegionTable (size shift lowest free : ℕ) (entries : Entries) (weaks : Starts) (memory : Memory) (rows : List Row)
    : Type 0 where
  pub table : IsTable size memory.all rows
  pub written : AreTilesWritten (table_of size memory.all rows) memory.written
  pub power : size ≡ 2 ^ shift
  pub narrow : shift < 32
  pub used_below : AreUsedBelow lowest rows
  pub free_is : free ≡ free_row_count rows
  pub whole_cards : (cards : ℕ) × (size ≡ cards * entries.card_words)
  pub each_card : length memory.all ≡ length entries.starts * entries.card_words
  pub first_tiles : AreEntries (table_of size memory.all rows) entries
  pub weak_regions : weaks.region_words ≡ size
  pub weak_count : length weaks.flags ≡ length memory.all
  pub weak_starts : AreStarts (table_of size memory.all rows) weaks.flags
  pub bare : weaks.pairs ≡ false → AreBare (table_of size memory.all rows)

-- the kind of a run's i-th region
abbrev pub run_kind : ℕ → Kind
run_kind zero = kinds.First
run_kind (suc i) = kinds.Rest

-- the row of the i-th region of an object of s words
abbrev pub run_row : ℕ → ℕ → ℕ → Row
run_row size s i = record { kind = run_kind i; used = min size (s - i * size) }

-- the rows i and so on of an object of s words, m of them
abbrev pub run_rows : ℕ → ℕ → ℕ → ℕ → List Row
run_rows size s i zero = []
run_rows size s i (suc m) = run_row size s i ∷ run_rows size s (suc i) m

-- whether a row is a later one of a run
abbrev pub kind_is_rest : Kind → Bool
kind_is_rest kinds.Rest = true
kind_is_rest _ = false

-- the words with a filler's header at n, unless it has no words
abbrev pub put_remainder : List ℕ → ℕ → ℕ → List ℕ
put_remainder words n zero = words
put_remainder words n (suc m) = slice_set words n (header_word (headers.Filler (suc m)))

-- the address, if there is one, is below the limit
abbrev pub IsBelow : Option ℕ → ℕ → Type 0
IsBelow None n = Unit {0}
IsBelow (Some a) n = a < n
