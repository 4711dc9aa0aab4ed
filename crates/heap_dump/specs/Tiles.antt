-- What marking knows of an object.
use Rattle.std.specs.Prelude.{ℕ, not, if◌then◌else◌}
use Rattle.mark_bitmap.specs.Marks.{is_marked}
use Rattle.mark_bitmap.specs.Tops.{is_below}
use Rattle.step_core.specs.Stands.{CoreState}
use Rattle.heap_dump.specs.declared.tiles.Progress.{Progress}
use Rattle.heap_dump.specs.declared.tiles.Progress.TheVariants as progress

-- what the marking that runs knows of the object at an address, by its region's next top, its mark and its scan
abbrev pub progress_of : CoreState → ℕ → Progress
progress_of c a =
    if not (is_below c.table.words_per_region c.marker.tams.next a) then progress.New
    else (if not (is_marked c.marker.bitmaps.next a) then progress.Unmarked
    else (if is_marked c.marker.grey.scanned a then progress.Scanned else progress.Grey))
