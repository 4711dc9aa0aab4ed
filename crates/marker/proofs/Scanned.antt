-- A scan is a part of marking that keeps the snapshot invariant.
use Rattle.std.proofs.Common.{◌≡◌, ℕ, ◌<◌, Bool, true, false, not, List, Option, Some, length, refl, sym, subst, arith, slice_get, ◌&&◌}
use Rattle.heap_model.specs.Graph.{IsReachable, next_name}
use Rattle.heap_model.specs.Heap.{Heap}
use Rattle.heap_model.specs.Marking.{KeepsSnapshot, MarksMore}
use Rattle.heap_model.proofs.Marks.{marks_more}
use Rattle.regions.specs.Table.{Table, pointers_at}
use Rattle.mark_bitmap.specs.Marks.{is_marked}
use Rattle.mark_bitmap.specs.Grey.{Scans, is_grey}
use Rattle.mark_bitmap.proofs.ObjectLaws.{only_within}
use Rattle.marker.specs.Views.{heap_of, marking_of}
use Rattle.marker.specs.Counts.{added}
use Rattle.marker.specs.Stands.{MarkerStands, CanFollow, IsKept}
use Rattle.marker.specs.Steps.{KeepsSnapshots, SameRoles}
use Rattle.marker.specs.declared.marker.Marker.{Marker}
use Rattle.marker.proofs.Views.{same_heap, kept_object, object_pointers_at}

pub same_snapshots : (t : Table) (m m' : Marker) → SameRoles m m'
    → ((roots : List (Option ℕ)) → MarksMore (heap_of t roots m) (marking_of t m) (marking_of t m')) → KeepsSnapshots t m m'
same_snapshots t m m' same more = λ s g roots shows keeps.
    subst (λ (h : Heap). KeepsSnapshot s h (marking_of t m')) (sym (same_heap t roots m m' same))
    (marks_more (IsReachable s) (next_name s) g (heap_of t roots m) (marking_of t m) (marking_of t m') shows keeps (more roots))

both_true : (a b : Bool) → (a && not b) ≡ true → (a ≡ true) × (b ≡ false)
both_true true false e = (refl, refl)
both_true true true e = cc
both_true false b e = cc

pub grey_is : (marks : List Bool) (g : Scans) (a : ℕ) → is_grey marks g a ≡ true
    → (is_marked marks a ≡ true) × (is_marked g.scanned a ≡ false)
grey_is marks g a e = both_true (is_marked marks a) (is_marked g.scanned a) e

-- the marker with another grey set, and one scan more
abbrev pub with_scan : Marker → Scans → Marker
with_scan m g = record {
  bitmaps = m.bitmaps;
  tams = m.tams;
  grey = g;
  logs = m.logs;
  running = m.running;
  scans = added m.scans;
  live = m.live;
  waiting = m.waiting;
}

-- where a pointer of a marked object leads is kept
pub target_kept : (t : Table) (m : Marker) (object place a : ℕ) → CanFollow t m → is_marked m.bitmaps.next object ≡ true
    → slice_get (pointers_at t object) place ≡ Some (Some a) → IsKept t m a
target_kept t m object place a f marked e =
    let k = f.marked object marked in
    let pointers = object_pointers_at t object k.object (kept_object t m.tams m.bitmaps.previous object k.object k.is) in
    let found = f.closed.pointer object place a k.object k.is (rw pointers at e) in
    record { object = found.0; is = found.1 }

-- what is grey was not scanned, and lies in the heap
pub grey_within : (t : Table) (m : Marker) (object : ℕ) → MarkerStands t m
    → is_grey m.bitmaps.next m.grey object ≡ true → object < length m.grey.scanned
grey_within t m object st grey = omega (arith, only_within m.bitmaps.next m.grey.scanned object grey, st.scanned)
