-- The lines of tiles: objects by their names, fields and state, fillers, and what has moved.
use Rattle.std.specs.Prelude.{ℕ, List, [], ◌++◌, Some, is_some, codes, if◌then◌else◌}
use Rattle.std.specs.List.{flat_map}
use Rattle.std.specs.Fmt.{decimal}
use Rattle.heap_words.specs.declared.addr.Addr.{Addr}
use Rattle.regions.specs.declared.row.Shape.{Shape}
use Rattle.regions.specs.declared.row.Shape.TheVariants as shapes
use Rattle.step_core.specs.Stands.{CoreState, kept_of}
use Rattle.heap_dump.specs.Fields.{fields_text, pointer_text}
use Rattle.heap_dump.specs.declared.fields.Spelling.TheVariants.{Lines}
use Rattle.heap_dump.specs.Shares.{region_tiles}
use Rattle.heap_dump.specs.Tiles.{progress_of}
use Rattle.heap_dump.specs.declared.tiles.Progress.{Progress}
use Rattle.heap_dump.specs.declared.tiles.Progress.TheVariants as progress

-- what the marking that runs knows of an object
abbrev pub progress_text : Progress → List ℕ
progress_text progress.New = codes "new"
progress_text progress.Unmarked = codes "unmarked"
progress_text progress.Grey = codes "grey"
progress_text progress.Scanned = codes "scanned"

-- whether an object is kept
abbrev pub keeping_text : CoreState → ℕ → List ℕ
keeping_text c a = if is_some (kept_of c a) then codes ", kept" else codes ", dead"

-- what marking knows of an object, while it runs
abbrev pub marking_text : CoreState → ℕ → List ℕ
marking_text c a = if c.marker.running then codes ", " ++ progress_text (progress_of c a) else []

-- an object: its name, its fields, whether it is kept, and what marking knows of it
abbrev pub object_text : CoreState → ℕ → List ℕ
object_text c a = pointer_text Lines c.table (Some a) ++ fields_text Lines c a ++ keeping_text c a ++ marking_text c a

-- what a tile is
abbrev pub shape_text : CoreState → ℕ → Shape → List ℕ
shape_text c a (shapes.Object pointers weaks values) = object_text c a
shape_text c a (shapes.Filler size) = codes "filler of " ++ decimal size
shape_text c a (shapes.Forwarded to size) = codes "moved to " ++ decimal to

-- a tile's line: where it starts, and what it is
abbrev pub tile_line : CoreState → Addr × Shape → List ℕ
tile_line c tile = codes "  at " ++ decimal tile.0 ++ codes ": " ++ shape_text c tile.0 tile.1 ++ codes "\n"

-- the lines of the tiles that start in region k
abbrev pub tile_lines : CoreState → ℕ → List ℕ
tile_lines c k = flat_map (tile_line c) (region_tiles c k)
