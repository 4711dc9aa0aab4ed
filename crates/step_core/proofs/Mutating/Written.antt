-- What is kept once an object is written, where marks and tops at mark start stay.
use Rattle.std.proofs.Common.{◌≡◌, ℕ, Bool, true, false, List, Option, Some, None, refl, sym, ◌∙◌, subst, if◌then◌else◌, slice_set}
use Rattle.heap_model.specs.Graph.{Graph, IsReachable, next_name}
use Rattle.heap_model.specs.Heap.{Stored, IsHeld, ObjectSet}
use Rattle.heap_model.specs.Kept.{kept_by}
use Rattle.heap_model.specs.Marking.{Marking, KeepsSnapshot, PairsSet}
use Rattle.heap_model.proofs.Mutate.{values_set, root_set}
use Rattle.regions.specs.Table.{Table, object_at}
use Rattle.regions.proofs.Tiles.Changes.{WritesObject, object_same}
use Rattle.mark_bitmap.specs.Marks.{is_marked}
use Rattle.mark_bitmap.specs.Tops.{is_below}
use Rattle.marker.specs.declared.marker.Marker.{Marker}
use Rattle.marker.specs.Views as views
use Rattle.step_core.specs.Stands.{CoreState, kept_of, heap_of, marking_of, ShowsGraph, KeepsFrom}

-- the configuration and the next name stay
pub record SamePlaces (c c' : CoreState) : Type 0 where
  pub config : c'.config ≡ c.config
  pub next : c'.next ≡ c.next

-- the marks and tops that tell what is kept stay, and the roots
pub record SameKeeping (c c' : CoreState) : Type 0 where
  pub tams : c'.marker.tams.previous ≡ c.marker.tams.previous
  pub previous : c'.marker.bitmaps.previous ≡ c.marker.bitmaps.previous
  pub roots : c'.roots ≡ c.roots

-- another object where one is kept
kept_changed : (tiles tiles' : ℕ → Option Stored) (below marked : ℕ → Bool) (a : ℕ) (x y : Stored) → kept_by tiles below marked a ≡ Some x
    → tiles' a ≡ Some y → kept_by tiles' below marked a ≡ Some y
kept_changed tiles tiles' below marked a x y was is = go (below a) (marked a) was
  where
    go : (b k : Bool) → (if b then (if k then tiles a else None) else tiles a) ≡ Some x
        → (if b then (if k then tiles' a else None) else tiles' a) ≡ Some y
    go true true e = is
    go true false e = cc
    go false k e = is

pub kept_same : (tiles tiles' : ℕ → Option Stored) (below marked : ℕ → Bool) (a : ℕ) → tiles' a ≡ tiles a
    → kept_by tiles' below marked a ≡ kept_by tiles below marked a
kept_same tiles tiles' below marked a e = rw e refl

-- what isn't below the top is kept as it is
pub kept_above : (tiles : ℕ → Option Stored) (below marked : ℕ → Bool) (a : ℕ) → below a ≡ false → kept_by tiles below marked a ≡ tiles a
kept_above tiles below marked a e = rw e refl

-- what is kept of another table, by the old marks and tops
kept_over : (c c' : CoreState) (a : ℕ) → c'.table.words_per_region ≡ c.table.words_per_region → SameKeeping c c'
    → kept_of c' a
    ≡ kept_by (object_at c'.table) (is_below c.table.words_per_region c.marker.tams.previous) (is_marked c.marker.bitmaps.previous) a
unfolding kept_of
kept_over c c' a size same = rw (size, same.tams, same.previous) refl

pub kept_is : (c : CoreState) (a : ℕ) → kept_of c a
    ≡ kept_by (object_at c.table) (is_below c.table.words_per_region c.marker.tams.previous) (is_marked c.marker.bitmaps.previous) a
unfolding kept_of
kept_is c a = refl

-- an object is written
pub object_written : (c c' : CoreState) (a : ℕ) (x y : Stored) → WritesObject c.table c'.table a x y → y.name ≡ x.name
    → kept_of c a ≡ Some x → SameKeeping c c' → ObjectSet (heap_of c) (heap_of c') a x y
object_written c c' a x y w name at same = record {
  was = at;
  is = kept_over c c' a w.size same ∙ kept_changed (object_at c.table) (object_at c'.table)
      (is_below c.table.words_per_region c.marker.tams.previous) (is_marked c.marker.bitmaps.previous) a x y (sym (kept_is c a) ∙ at) w.is;
  name = name;
  others = λ b n. kept_over c c' b w.size same ∙ kept_same (object_at c.table) (object_at c'.table)
      (is_below c.table.words_per_region c.marker.tams.previous) (is_marked c.marker.bitmaps.previous) b
      (object_same c.table c'.table b (w.others b n)) ∙ sym (kept_is c b);
  roots = same.roots;
}

-- the table of marking counts by the words of its regions alone
pub marking_same : (t t' : Table) (m : Marker) → t'.words_per_region ≡ t.words_per_region → views.marking_of t' m ≡ views.marking_of t m
marking_same t t' m e = rw e refl

-- a root word set keeps what there is of the snapshot
pub root_keeps : (g s : Graph) (c : CoreState) (place : ℕ) (w : Option ℕ) (roots : List (Option ℕ)) → ShowsGraph g c → IsHeld (heap_of c) w
    → roots ≡ slice_set c.roots place w → KeepsFrom s c → KeepsFrom s (record c { roots = roots })
unfolding kept_of
root_keeps g s c place w roots shows held is k = record {
  earlier = k.earlier;
  marking = λ run. root_set (IsReachable s) (next_name s) g (heap_of c) (marking_of c) shows.shows (k.marking run)
      (heap_of (record c { roots = roots })) place w held (record { kept = λ a. refl; roots = is });
}

-- a write to data words or weak slots
pub write_keeps : (g s : Graph) (c : CoreState) (t : Table) (a : ℕ) (x y : Stored) → ShowsGraph g c → WritesObject c.table t a x y
    → y.name ≡ x.name → kept_of c a ≡ Some x → y.pointers ≡ x.pointers → PairsSet (heap_of c) (marking_of c) x y → KeepsFrom s c
    → KeepsFrom s (record c { table = t })
write_keeps g s c t a x y shows w name at pointers pairs k = record {
  earlier = k.earlier;
  marking =
      λ run. subst (λ (m : Marking). KeepsSnapshot s (heap_of (record c { table = t })) m) (sym (marking_same c.table t c.marker w.size))
      (values_set (IsReachable s) (next_name s) g (heap_of c) (heap_of (record c { table = t })) (marking_of c) shows.shows
      (k.marking run) a x y
      (object_written c (record c { table = t }) a x y w name at (record { tams = refl; previous = refl; roots = refl })) pointers pairs);
}
