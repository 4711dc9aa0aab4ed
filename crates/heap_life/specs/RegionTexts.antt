-- What is told of a region.
use Rattle.std.specs.Prelude.{◌-◌, ◌*◌, ℕ, Bool, if◌then◌else◌, List, [], ◌++◌, Option, Some, None}
use Rattle.std.specs.Prelude.{length, codes, flat_map, slice_index, nat_le}
use Rattle.std.specs.Fmt.{decimal}
use Rattle.heap_words.specs.declared.addr.Addr.{Addr}
use Rattle.heap_model.specs.Heap.{Stored}
use Rattle.script_text.specs.Texts.{spaced_number}
use Rattle.regions.specs.Table.{kind_of, used_of, object_at}
use Rattle.regions.specs.declared.row.Kind.{Kind}
use Rattle.regions.specs.declared.row.Kind.TheVariants as kinds
use Rattle.regions.specs.declared.row.Shape.{Shape}
use Rattle.regions.specs.declared.row.Shape.TheVariants.{Object, Filler, Forwarded}
use Rattle.step_core.specs.Stands.{CoreState}
use Rattle.step_core.specs.Measures.{live_in}
use Rattle.heap_dump.specs.Lists.{set_text}
use Rattle.heap_dump.specs.Fields.{fields_text}
use Rattle.heap_dump.specs.declared.fields.Spelling.TheVariants.{Page}
use Rattle.heap_dump.specs.Tiles.{progress_of}
use Rattle.heap_dump.specs.Shares.{grey_objects, part_in, part_words, region_tiles}
use Rattle.heap_dump.specs.declared.shares.Part.{Part}
use Rattle.heap_dump.specs.declared.shares.Part.TheVariants as parts
use Rattle.heap_dump.specs.declared.tiles.Progress.{Progress}
use Rattle.heap_dump.specs.declared.tiles.Progress.TheVariants as progress

-- the top at mark start above the region's bottom, and while marking runs the next top and how many objects are grey
abbrev pub tops_text : CoreState → ℕ → List ℕ
tops_text c k = spaced_number (slice_index c.marker.tams.previous k - k * c.table.words_per_region)
    ++ (if c.marker.running
    then spaced_number (slice_index c.marker.tams.next k - k * c.table.words_per_region) ++ spaced_number (grey_objects c k)
    else [])

-- words that are handed out, marked, dead, new, of fillers, live
abbrev pub shares_text : CoreState → ℕ → List ℕ
shares_text c k = spaced_number (used_of c.table k) ++ spaced_number (part_words c parts.Marked k)
    ++ spaced_number (part_words c parts.Dead k) ++ spaced_number (part_words c parts.New k)
    ++ spaced_number (part_words c parts.Filler k) ++ spaced_number (live_in c k) ++ tops_text c k

abbrev pub kind_text : CoreState → ℕ → Kind → List ℕ
kind_text c k kinds.Free = codes " f"
kind_text c k kinds.Ordinary = codes " o" ++ shares_text c k
kind_text c k kinds.First = codes " h" ++ shares_text c k
kind_text c k kinds.Rest = codes " t" ++ spaced_number (used_of c.table k)

abbrev pub region_line : CoreState → ℕ → List ℕ
region_line c k = codes "r" ++ spaced_number k ++ kind_text c k (kind_of c.table k) ++ codes "\n"

-- ---- tiles

abbrev pub letter_text : Part → List ℕ
letter_text parts.Marked = codes "m"
letter_text parts.Dead = codes "d"
letter_text parts.New = codes "n"
letter_text parts.Filler = codes "x"

abbrev pub progress_letter : Progress → List ℕ
progress_letter progress.New = codes "n"
progress_letter progress.Unmarked = codes "u"
progress_letter progress.Grey = codes "g"
progress_letter progress.Scanned = codes "s"

-- what the marking that runs knows of an object; nothing where none runs
abbrev pub progress_text : CoreState → ℕ → List ℕ
progress_text c a = if c.marker.running then progress_letter (progress_of c a) else []

-- an object's name, its state and its fields
abbrev pub stored_text : CoreState → ℕ → Part → Option Stored → List ℕ
stored_text c a part None = []
stored_text c a part (Some s) = decimal s.name ++ codes " " ++ letter_text part ++ progress_text c a ++ fields_text Page c a

abbrev pub object_text : CoreState → ℕ → Part → List ℕ
object_text c a part = stored_text c a part (object_at c.table a)

abbrev pub filler_text : ℕ → ℕ → List ℕ
filler_text offset size = codes "x" ++ spaced_number offset ++ spaced_number size

abbrev pub shape_text : CoreState → ℕ → ℕ → Shape → List ℕ
shape_text c offset a (Object p w d) = codes "o" ++ spaced_number offset ++ codes " " ++ object_text c a (part_in c a (Object p w d))
shape_text c offset a (Filler n) = filler_text offset n
shape_text c offset a (Forwarded to n) = filler_text offset n

-- a tile of region k: its line
abbrev pub tile_text : CoreState → ℕ → Addr × Shape → List ℕ
tile_text c k x = shape_text c (x.0 - k * c.table.words_per_region) x.0 x.1 ++ codes "\n"

-- the tiles of a region, or that they are more than 400
abbrev pub tiles_text : CoreState → ℕ → List ℕ
tiles_text c k = if nat_le (length (region_tiles c k)) 400 then flat_map (tile_text c k) (region_tiles c k) else codes "y\n"

abbrev pub rest_text : Bool → CoreState → ℕ → Kind → List ℕ
rest_text tiles c k kinds.Free = []
rest_text tiles c k _ = set_text c (codes "s") (codes " ;") (codes " ") k ++ (if tiles then tiles_text c k else [])

-- a region, with its tiles where they are told
abbrev pub region_text : Bool → CoreState → ℕ → List ℕ
region_text tiles c k = region_line c k ++ rest_text tiles c k (kind_of c.table k)
