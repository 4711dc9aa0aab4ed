-- The heap of a marker whose roles stay, and the pointers of kept objects.
use Rattle.std.proofs.Common.{◌≡◌, ◌*◌, ◌<◌, ℕ, Bool, true, false, List, Option, Some, None, length, refl, ap, ◌∙◌, arith, if◌then◌else◌}
use Rattle.heap_model.specs.Heap.{Heap, Stored}
use Rattle.regions.specs.Tiles.{Object}
use Rattle.regions.specs.Table.{Table, object_at, object_pointers, pointers_at, tile_in}
use Rattle.regions.specs.Shaped.{IsShaped}
use Rattle.regions.proofs.Tiles.Laws.{object_tile}
use Rattle.mark_bitmap.specs.Marks.{is_marked}
use Rattle.mark_bitmap.specs.Tops.{Tops, below_previous}
use Rattle.mark_bitmap.specs.Kept.{kept_in}
use Rattle.marker.specs.Views.{heap_of, untaken}
use Rattle.marker.specs.Stands.{IsKept}
use Rattle.marker.specs.Steps.{SameRoles}
use Rattle.marker.specs.declared.marker.Marker.{Marker}

pub same_heap : (t : Table) (roots : List (Option ℕ)) (m m' : Marker) → SameRoles m m' → heap_of t roots m' ≡ heap_of t roots m
same_heap t roots m m' same = rw (same.tams, same.previous) refl

-- what is still to be taken is told by the roots that wait and by the logs
pub same_untaken : (m m' : Marker) → m'.waiting ≡ m.waiting → m'.logs ≡ m.logs → untaken m' ≡ untaken m
same_untaken m m' waiting logs = rw (waiting, logs) refl

was_some : (below marked : Bool) (object : Option Stored) (s : Stored)
    → (if below then (if marked then object else None) else object) ≡ Some s → object ≡ Some s
was_some true true object s e = e
was_some true false object s e = cc
was_some false marked object s e = e

pub kept_object : (t : Table) (tops : Tops) (previous : List Bool) (a : ℕ) (s : Stored)
    → kept_in t tops previous a ≡ Some s → object_at t a ≡ Some s
kept_object t tops previous a s e = was_some (below_previous t tops a) (is_marked previous a) (object_at t a) s e

pub object_pointers_at : (t : Table) (a : ℕ) (s : Stored) → object_at t a ≡ Some s → pointers_at t a ≡ s.pointers
unfolding pointers_at
object_pointers_at t a s e = ap object_pointers e

pub same_kept : (t : Table) (m m' : Marker) (a : ℕ) → SameRoles m m' → IsKept t m a → IsKept t m' a
same_kept t m m' a same k = record { object = k.object; is = ap (λ h. Heap.kept h a) (same_heap t (List.[]) m m' same) ∙ k.is }

-- what is kept is told by the previous marks and tops alone
pub previous_heap : (t : Table) (roots : List (Option ℕ)) (m m' : Marker) → m'.tams.previous ≡ m.tams.previous
    → m'.bitmaps.previous ≡ m.bitmaps.previous → heap_of t roots m' ≡ heap_of t roots m
previous_heap t roots m m' tops marks = rw (tops, marks) refl

pub kept_before : (t : Table) (roots : List (Option ℕ)) (m m' : Marker) (a : ℕ) → m'.tams.previous ≡ m.tams.previous
    → m'.bitmaps.previous ≡ m.bitmaps.previous → (x : Stored) × ((heap_of t roots m).kept a ≡ Some x) → IsKept t m' a
kept_before t roots m m' a tops marks k = record {
  object = k.0;
  is = ap (λ (h : Heap). h.kept a) (previous_heap t roots m m' tops marks) ∙ k.1;
}

-- a kept object starts at a word of the heap
pub kept_within : (t : Table) (m : Marker) (a : ℕ) → IsShaped t → IsKept t m a → a < length t.regions * t.words_per_region
unfolding tile_in object_at
kept_within t m a shape kept =
    let object = kept_object t m.tams m.bitmaps.previous a kept.object kept.is in
    omega (arith, shape.within a (Object kept.object) (object_tile (tile_in t a) kept.object object))
