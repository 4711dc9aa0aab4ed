-- What is kept, and what marks and tops at mark start have to do with the table.
use Rattle.std.specs.Prelude.{◌≡◌, ℕ, ◌*◌, ◌<◌, ◌≤◌, Bool, true, List, length, Option, Some, slice_index}
use Rattle.heap_model.specs.Heap.{Stored, Heap}
use Rattle.heap_model.specs.Marking.{Marking}
use Rattle.heap_model.specs.Kept.{kept_by}
use Rattle.regions.specs.Table.{Table, object_at, top_of}
use Rattle.mark_bitmap.specs.Marks.{is_marked}
use Rattle.mark_bitmap.specs.Tops.{Tops, is_below, below_previous, below_next}
use Rattle.mark_bitmap.specs.Grey.{Scans, done_in}

-- the objects that start at or above their region's previous top at mark start, or are marked
abbrev pub kept_in : Table → Tops → List Bool → ℕ → Option Stored
kept_in t tops previous = kept_by (object_at t) (below_previous t tops) (is_marked previous)

-- the heap as a table, marks and roots show it
abbrev pub heap_in : Table → Tops → List Bool → List (Option ℕ) → Heap
heap_in t tops previous roots = record { kept = kept_in t tops previous; roots = roots }

-- marking, as the next tops and marks, the scanned objects and the logged addresses show it
abbrev pub marking_in : Table → Tops → List Bool → Scans → List ℕ → Marking
marking_in t tops next scans logged = record {
  old = below_next t tops;
  marked = is_marked next;
  scanned = is_marked scans.scanned;
  done = done_in scans;
  logged = logged;
}

-- Tops at mark start lie between the bottom and the top of their regions, and marks stand at starts of objects
-- below them. So a free region's top at mark start is its bottom, and it has no marks
pub record MarksObjects (t : Table) (tops : List ℕ) (marks : List Bool) : Type 0 where
  pub each_region : length tops ≡ length t.regions
  pub each_word : length marks ≡ length t.regions * t.words_per_region
  pub bottom : (k : ℕ) → k < length t.regions → k * t.words_per_region ≤ slice_index tops k
  pub top : (k : ℕ) → k < length t.regions → slice_index tops k ≤ top_of t k
  pub object : (a : ℕ) → is_marked marks a ≡ true → (s : Stored) × (object_at t a ≡ Some s)
  pub below : (a : ℕ) → is_marked marks a ≡ true → is_below t.words_per_region tops a ≡ true
