-- What the theory of marking sees of a table, the root words and a marker.
use Rattle.std.specs.Prelude.{ℕ, ◌*◌, ◌++◌, Bool, List, [], Option, true, false, if◌then◌else◌, replicate}
use Rattle.heap_words.specs.declared.config.Config.{Config}
use Rattle.heap_words.specs.declared.config.Format.{Format}
use Rattle.heap_words.specs.declared.config.Format.TheVariants.{V1, V2, V3}
use Rattle.heap_model.specs.Graph.{root_places}
use Rattle.heap_model.specs.Heap.{Heap}
use Rattle.heap_model.specs.Marking.{Marking}
use Rattle.root_table.specs.Roots.{root_counts_of}
use Rattle.regions.specs.Table.{Table}
use Rattle.mark_bitmap.specs.Tops.{exchanged, bottoms}
use Rattle.mark_bitmap.specs.Grey.{nothing_scanned}
use Rattle.mark_bitmap.specs.Kept.{heap_in, marking_in}
use Rattle.satb_log.specs.Logs.{logged}
use Rattle.marker.specs.Live.{nothing_counted}
use Rattle.marker.specs.Waiting.{none_waiting}
use Rattle.marker.specs.declared.marker.Marker.{Marker}

-- the objects that the previous marks and tops keep, and the root words
abbrev pub heap_of : Table → List (Option ℕ) → Marker → Heap
heap_of t roots m = heap_in t m.tams m.bitmaps.previous roots

-- what marking has not taken yet: the roots that wait, and what is logged
abbrev pub untaken : Marker → List ℕ
untaken m = m.waiting.addresses ++ logged m.logs

-- old is what lies below the next tops
abbrev pub marking_of : Table → Marker → Marking
marking_of t m = marking_in t m.tams m.bitmaps.next m.grey (untaken m)

-- the marker with previous and next in each other's place, marks and tops
abbrev pub with_roles_exchanged : Marker → Marker
with_roles_exchanged m = record m { bitmaps = record { previous = m.bitmaps.next; next = m.bitmaps.previous }; tams = exchanged m.tams }

-- what the marks and the tops of the marking that is over tell of each address: what is old and unmarked isn't kept
abbrev pub ended_marking_of : Table → Marker → Marking
ended_marking_of t m = marking_of t (with_roles_exchanged m)

-- whether grey objects are scanned by rising address: in the first two formats. In the third the one that was found last comes next
abbrev pub is_by_address : Format → Bool
is_by_address V1 = true
is_by_address (V2 card) = true
is_by_address (V3 card globals registers) = false

-- for how many roots there is room to wait: in the third format for all, in the first two for none, since they are marked at once
abbrev pub waiting_room : Config → ℕ
waiting_room c = if is_by_address c.format then 0 else root_places (root_counts_of c)

-- the marker of a new heap: no marks, all tops at the bottoms, nothing scanned, logged or waiting, and marking doesn't run
unfoldable pub fresh_marker : Config → Marker
fresh_marker c = record {
  bitmaps = record { previous = replicate (c.regions * c.words) false; next = replicate (c.regions * c.words) false };
  tams = record { previous = bottoms c.regions c.words; next = bottoms c.regions c.words };
  grey = nothing_scanned (c.regions * c.words) (is_by_address c.format);
  logs = replicate c.mutators [];
  running = false;
  scans = record { since = 0; total = 0 };
  live = nothing_counted c.regions;
  waiting = none_waiting (waiting_room c);
}
