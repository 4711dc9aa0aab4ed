-- What a marker has to do with the table that it marks.
use Rattle.std.specs.Prelude.{◌≡◌, ◌≤◌, ℕ, true, false, [], length, Some, Contains}
use Rattle.heap_model.specs.Clearing.{CanBeFollowed}
use Rattle.heap_model.specs.Heap.{Stored}
use Rattle.regions.specs.Table.{Table, pointers_at}
use Rattle.mark_bitmap.specs.Marks.{is_marked, marked_count}
use Rattle.mark_bitmap.specs.Tops.{below_next, AreNewer}
use Rattle.mark_bitmap.specs.Grey.{HasFingers}
use Rattle.mark_bitmap.specs.Kept.{MarksObjects, kept_in}
use Rattle.satb_log.specs.Logs.{logged}
use Rattle.marker.specs.Views.{heap_of, untaken}
use Rattle.marker.specs.Live.{CountsWords}
use Rattle.marker.specs.declared.marker.Marker.{Marker}

-- a kept object starts at the address
pub record IsKept (t : Table) (m : Marker) (a : ℕ) : Type 0 where
  pub object : Stored
  pub is : kept_in t m.tams m.bitmaps.previous a ≡ Some object

-- marking can follow every pointer and every pair: those of kept objects lead to kept objects, what is marked is kept, and what is
-- logged or waits is kept and lies below the next tops. This holds wherever the heap shows a graph and marking keeps a snapshot
pub record CanFollow (t : Table) (m : Marker) : Type 0 where
  pub closed : CanBeFollowed (heap_of t [] m)
  pub marked : (a : ℕ) → is_marked m.bitmaps.next a ≡ true → IsKept t m a
  pub logged_kept : (a : ℕ) → Contains (untaken m) a → IsKept t m a
  pub logged_below : (a : ℕ) → Contains (untaken m) a → below_next t m.tams a ≡ true

-- marks of both roles stand at objects below their tops, and while marking runs each grey object has its finger set, is held or is on the
-- stack, no next top lies below the previous one and it can follow every pointer; while it doesn't, nothing is logged and no root waits
pub record MarkerStands (t : Table) (m : Marker) : Type 0 where
  pub previous : MarksObjects t m.tams.previous m.bitmaps.previous
  pub next : MarksObjects t m.tams.next m.bitmaps.next
  pub scanned : length m.grey.scanned ≡ length m.bitmaps.next
  pub finger : m.running ≡ true → HasFingers m.bitmaps.next m.grey
  pub newer : m.running ≡ true → AreNewer m.tams
  pub follows : m.running ≡ true → CanFollow t m
  pub idle : m.running ≡ false → logged m.logs ≡ []
  pub none_wait : m.running ≡ false → m.waiting.addresses ≡ []
  -- scanned objects are marked, and counted
  pub scanned_marked : m.running ≡ true → (a : ℕ) → is_marked m.grey.scanned a ≡ true → is_marked m.bitmaps.next a ≡ true
  pub counted : m.running ≡ true → m.scans.since ≡ marked_count m.grey.scanned
  -- of the held object some word was not looked at yet
  pub part : m.running ≡ true → (a : ℕ) → m.grey.held ≡ Some a → m.grey.looked ≤ length (pointers_at t a)
  -- the words of what is marked are counted by regions
  pub live : CountsWords t m.bitmaps.previous m.live.previous
  pub live_next : CountsWords t m.bitmaps.next m.live.next
