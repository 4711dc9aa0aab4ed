-- What parts of marking do to a marker.
use Rattle.std.specs.Prelude.{◌≡◌, ◌+◌, ◌⊎◌, ◌==◌, ◌∷◌, ◌++◌, if◌then◌else◌}
use Rattle.std.specs.Prelude.{ℕ, Bool, true, false, List, [], Option, Some, None, Contains, length, slice_set}
use Rattle.heap_model.specs.Graph.{Graph}
use Rattle.heap_model.specs.Clearing.{WillShow}
use Rattle.heap_model.specs.Marking.{KeepsSnapshot}
use Rattle.regions.specs.Table.{Table}
use Rattle.mark_bitmap.specs.Marks.{is_marked, marked_count}
use Rattle.mark_bitmap.specs.Tops.{below_next}
use Rattle.satb_log.specs.Logs.{log_of}
use Rattle.marker.specs.Counts.{IsMore}
pub use Rattle.marker.specs.Roots.{IsInFirst}
use Rattle.marker.specs.Views.{heap_of, marking_of}
use Rattle.marker.specs.declared.marker.Marker.{Marker}

-- whatever the snapshot, the graph that the heap shows and its roots: where the snapshot invariant held, it holds
abbrev pub KeepsSnapshots : Table → Marker → Marker → Type 0
KeepsSnapshots t m m' = (s g : Graph) (roots : List (Option ℕ)) → WillShow g (heap_of t roots m)
    → KeepsSnapshot s (heap_of t roots m) (marking_of t m) → KeepsSnapshot s (heap_of t roots m') (marking_of t m')

-- what is kept, all tops, whether marking runs and the room for roots that wait stay
pub record SameRoles (m m' : Marker) : Type 0 where
  pub previous : m'.bitmaps.previous ≡ m.bitmaps.previous
  pub tams : m'.tams ≡ m.tams
  pub running : m'.running ≡ m.running
  pub room : m'.waiting.room ≡ m.waiting.room

-- of the wanted addresses those below the next tops are marked, and no mark came beside them or went
pub record MarksWanted (t : Table) (wanted : ℕ → Type 0) (m m' : Marker) : Type 0 where
  pub stays : (a : ℕ) → is_marked m.bitmaps.next a ≡ true → is_marked m'.bitmaps.next a ≡ true
  pub only : (a : ℕ) → is_marked m'.bitmaps.next a ≡ true → (is_marked m.bitmaps.next a ≡ true) ⊎ wanted a
  pub each : (a : ℕ) → wanted a → below_next t m.tams a ≡ true → is_marked m'.bitmaps.next a ≡ true

-- marks and scanned objects may come, and none goes
pub record Grows (m m' : Marker) : Type 0 where
  pub marked : (a : ℕ) → is_marked m.bitmaps.next a ≡ true → is_marked m'.bitmaps.next a ≡ true
  pub scanned : (a : ℕ) → is_marked m.grey.scanned a ≡ true → is_marked m'.grey.scanned a ≡ true

-- as many objects more are scanned as were counted: none of them twice
pub record ScansMore (m m' : Marker) : Type 0 where
  pub count : ℕ
  pub scanned : marked_count m'.grey.scanned ≡ marked_count m.grey.scanned + count
  pub scans : IsMore m.scans m'.scans count

-- an address below the next tops enters the mutator's log, and nothing else changes
abbrev pub saved : Table → Marker → ℕ → Option ℕ → Marker
saved t m mutator None = m
saved t m mutator (Some a) =
    if below_next t m.tams a then record m { logs = slice_set m.logs mutator (log_of m.logs mutator ++ a ∷ []) } else m

-- a mutator's log is empty, and what was in it is marked. Nothing else changed but the fingers and the held object
pub record HasTakenLog (t : Table) (mutator : ℕ) (m m' : Marker) : Type 0 where
  pub emptied : m'.logs ≡ slice_set m.logs mutator []
  pub marks : MarksWanted t (Contains (log_of m.logs mutator)) m m'
  pub same : SameRoles m m'
  pub scanned : m'.grey.scanned ≡ m.grey.scanned
  pub scans : m'.scans ≡ m.scans
  pub waiting : m'.waiting ≡ m.waiting

-- where the log is full
abbrev pub TakesFull : Bool → Table → ℕ → Marker → Marker → Type 0
TakesFull true t mutator m m' = HasTakenLog t mutator m m'
TakesFull false t mutator m m' = m' ≡ m

-- A mutator overwrites a pointer. While marking runs, the old value is saved, and a log of eight is taken; else nothing changes
abbrev pub Overwrites : Bool → Table → ℕ → Option ℕ → Marker → Marker → Type 0
Overwrites false t mutator w m m' = m' ≡ m
Overwrites true t mutator w m m' = TakesFull (length (log_of (saved t m mutator w).logs mutator) == 8) t mutator (saved t m mutator w) m'
