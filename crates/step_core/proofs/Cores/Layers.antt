-- The layers below fit one another, after each kind of change.
use Rattle.std.proofs.Common.{◌≡◌, ℕ, ◌<◌, ◌≤◌, Some, length, true, refl, ◌∙◌, ap, inl, inr, slice_index}
use Rattle.heap_model.specs.Graph.{Graph}
use Rattle.heap_model.specs.Heap.{Stored}
use Rattle.heap_words.specs.declared.config.Config.{Config}
use Rattle.regions.specs.Table.{Table, object_at, object_words, pointers_at, top_of}
use Rattle.regions.specs.Tiles.{Object, tile_size}
use Rattle.regions.proofs.Tiles.Changes.{WritesObject, object_same}
use Rattle.step_core.proofs.Mutating.Small.{IsHalf, IsOver, pointers_written, sizes_same, words_written}
use Rattle.alloc_buffers.specs.Placement.{Buffers, AreAbove}
use Rattle.alloc_buffers.proofs.Above.{above_same}
use Rattle.satb_log.specs.Logs.{log_of}
use Rattle.regions.specs.declared.row.Kind.TheVariants as kinds
use Rattle.marker.specs.Stands.{MarkerStands, CanFollow}
use Rattle.marker.specs.declared.marker.Marker.{Marker}
use Rattle.marker.proofs.Follow.{can_follow}
use Rattle.marker.proofs.Forgotten.{table_stands}
use Rattle.std.proofs.lemmas.Bool.{cases_eq}
use Rattle.step_core.specs.Stands.{CoreState, kept_of, ShowsGraph, KeepsFrom, LayersFit}
use Rattle.step_core.proofs.Cores.Added.{stand_writes}

-- marking can follow every pointer of a core that stands for a graph
pub follows_of : (c : CoreState) → (g s : Graph) → ShowsGraph g c → KeepsFrom s c → c.marker.running ≡ true → CanFollow c.table c.marker
unfolding kept_of
follows_of c g s shows keeps run = can_follow s g c.table c.roots c.marker shows.shows (keeps.marking run)

-- the table changes beneath the marker
pub stands_over : (t t' : Table) (m : Marker) → MarkerStands t m → length t'.regions ≡ length t.regions
    → t'.words_per_region ≡ t.words_per_region → ((k : ℕ) → k < length t.regions → slice_index m.tams.previous k ≤ top_of t' k)
    → ((k : ℕ) → k < length t.regions → slice_index m.tams.next k ≤ top_of t' k)
    → ((a : ℕ) (x : Stored) → object_at t a ≡ Some x → (y : Stored) × (object_at t' a ≡ Some y))
    → ((a : ℕ) (x : Stored) → object_at t a ≡ Some x → object_words t' a ≡ object_words t a)
    → ((a : ℕ) (x : Stored) → object_at t a ≡ Some x → length (pointers_at t' a) ≡ length (pointers_at t a))
    → (m.running ≡ true → CanFollow t' m) → MarkerStands t' m
stands_over t t' m st count size low high stays words pointers follows =
    table_stands t t' m st count size low high (λ a x _ o. stays a x o) (λ a x _ o. stays a x o)
    (λ a h. let o = st.previous.object a h in words a o.0 o.1) (λ a h. let o = st.next.object a h in words a o.0 o.1)
    (λ _ a h. let o = st.next.object a h in pointers a o.0 o.1) follows

-- an object is written over: there still is one
pub still_there : (t t' : Table) (a b : ℕ) (x y z : Stored) → WritesObject t t' a x y → object_at t b ≡ Some z
    → (u : Stored) × (object_at t' b ≡ Some u)
still_there t t' a b x y z w e =
    elim (cases_eq b a) [ inl q ↦ (y, ap (object_at t') q ∙ w.is) | inr n ↦ (z, object_same t t' b (w.others b n) ∙ e) ]

-- the marker stands over the table with an object written
pub marker_writes : (t t' : Table) (b : Buffers) (m : Marker) (a : ℕ) (x y : Stored) → WritesObject t t' a x y
    → AreAbove t b (slice_index m.tams.previous) → AreAbove t b (slice_index m.tams.next)
    → MarkerStands t m → (m.running ≡ true → CanFollow t' m) → tile_size (Object y) ≡ tile_size (Object x)
    → length y.pointers ≡ length x.pointers → MarkerStands t' m
marker_writes t t' b m a x y w previous next st follows long shape =
    let p = above_same t t' b (slice_index m.tams.previous) w.size w.count w.used previous in
    let n = above_same t t' b (slice_index m.tams.next) w.size w.count w.used next in
    stands_over t t' m st w.count w.size (λ k lt. p.tops k (rw w.count lt)) (λ k lt. n.tops k (rw w.count lt))
    (λ c z e. still_there t t' a c x y z w e) (λ c z e. words_written t t' a x y w long c)
    (λ c z e. pointers_written t t' a x y w shape c) follows

-- an object is written, and marking may have gone on: tops stay, and no log is full
pub layers_changed : (config : Config) (t t' : Table) (b : Buffers) (m m' : Marker) (a : ℕ) (x y : Stored) → WritesObject t t' a x y
    → LayersFit config t b m → MarkerStands t' m' → m'.tams ≡ m.tams → m'.waiting.room ≡ m.waiting.room → length m'.logs ≡ length m.logs
    → ((mutator : ℕ) → length (log_of m'.logs mutator) < 8) → tile_size (Object y) ≡ tile_size (Object x) → LayersFit config t' b m'
layers_changed config t t' b m m' a x y w l st tams spare logs room long = record {
  region_size = w.size ∙ l.region_size;
  region_count = w.count ∙ l.region_count;
  buffer_size = l.buffer_size;
  open_buffers = l.open_buffers;
  logs = logs ∙ l.logs;
  waits = spare ∙ l.waits;
  buffers = stand_writes w l.buffers;
  unmoved = w.unmoved l.unmoved;
  marker = st;
  above_previous = rw tams (above_same t t' b (slice_index m.tams.previous) w.size w.count w.used l.above_previous);
  above_next = rw tams (above_same t t' b (slice_index m.tams.next) w.size w.count w.used l.above_next);
  room = room;
  halves = sizes_same kinds.Ordinary IsHalf t t' w.size w.kinds (words_written t t' a x y w long) l.halves;
  wide = sizes_same kinds.First IsOver t t' w.size w.kinds (words_written t t' a x y w long) l.wide;
}

-- an object is written, and nothing else changed
pub layers_writes : (config : Config) (t t' : Table) (b : Buffers) (m : Marker) (a : ℕ) (x y : Stored)
    → WritesObject t t' a x y → LayersFit config t b m → (m.running ≡ true → CanFollow t' m)
    → tile_size (Object y) ≡ tile_size (Object x) → length y.pointers ≡ length x.pointers → LayersFit config t' b m
layers_writes config t t' b m a x y w l follows long shape =
    layers_changed config t t' b m m a x y w l
    (marker_writes t t' b m a x y w l.above_previous l.above_next l.marker follows long shape) refl refl refl l.room long

-- marking goes on: tops stay, and no log is full
pub layers_marked : (config : Config) (t : Table) (b : Buffers) (m m' : Marker) → LayersFit config t b m → MarkerStands t m'
    → m'.tams ≡ m.tams → m'.waiting.room ≡ m.waiting.room → length m'.logs ≡ length m.logs
    → ((mutator : ℕ) → length (log_of m'.logs mutator) < 8) → LayersFit config t b m'
layers_marked config t b m m' l st tams spare logs room = record {
  region_size = l.region_size;
  region_count = l.region_count;
  buffer_size = l.buffer_size;
  open_buffers = l.open_buffers;
  logs = logs ∙ l.logs;
  waits = spare ∙ l.waits;
  buffers = l.buffers;
  unmoved = l.unmoved;
  marker = st;
  above_previous = rw tams l.above_previous;
  above_next = rw tams l.above_next;
  room = room;
  halves = l.halves;
  wide = l.wide;
}
