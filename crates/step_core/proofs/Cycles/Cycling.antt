-- Marking begins and goes on in a core: k is the core by its fields before the step.
use Rattle.std.proofs.Common.{◌≡◌, ℕ, ◌<◌, ◌≤◌, Bool, true, false, if◌then◌else◌, List, None, length}
use Rattle.std.proofs.Common.{refl, sym, ◌∙◌, ap, subst, arith, slice_index}
use Rattle.std.proofs.lemmas.List.{length-replicate}
use Rattle.heap_model.specs.Graph.{Graph}
use Rattle.heap_model.specs.Heap.{Heap}
use Rattle.heap_model.specs.Clearing.{WillShow, CanBeFollowed}
use Rattle.heap_model.proofs.Shown.{followed}
use Rattle.heap_model.proofs.Unreached.{unreached_begins}
use Rattle.heap_model.specs.Marking.{KeepsSnapshot, Begins}
use Rattle.regions.specs.Table.{Table, top_of}
use Rattle.alloc_buffers.specs.Placement.{Buffers, BuffersStand, AreAbove, retired}
use Rattle.marker.specs.Views as views
use Rattle.marker.specs.Stands.{MarkerStands}
use Rattle.marker.specs.Steps.{SameRoles, KeepsSnapshots, Grows, ScansMore}
use Rattle.marker.specs.Looks.{BeginsBy, MarksUpTo}
use Rattle.marker.specs.Counts.{restarted}
use Rattle.marker.specs.declared.marker.Marker.{Marker}
use Rattle.marker.proofs.Views.{same_heap, previous_heap}
use Rattle.graph_runs.specs.State.{root_places}
use Rattle.region_choice.specs.Ages.{Ages, all_old}
use Rattle.step_core.specs.Stands.{root_counts_of, CoreState, kept_of, heap_of, RemembersFields, ShowsGraph, KeepsFrom, IsClearing, IsCore}
use Rattle.step_core.specs.Cycle.{HasBegun, HasMarked}
use Rattle.regions.specs.Shaped.{IsShaped}
use Rattle.step_core.proofs.Cores.Layers.{layers_marked}
use Rattle.step_core.proofs.Cores.Slots.{slots_same}
use Rattle.step_core.proofs.Cores.Resting.{aged_over, core_stays}
use Rattle.step_core.proofs.Cores.Remembering.{remembers_on, same_fields}

abbrev pub with_marker : CoreState → Buffers → Marker → Ages → CoreState
with_marker c b m ages = record c { buffers = b; marker = m; ages = ages }

-- a fact of the core's value is one of its fields
pub to_fields : (k c : CoreState) → k ≡ c → (P : CoreState → Type 0) → P c → P k
to_fields k c e P p = subst P (sym e) p

-- marking can begin
pub can_begin : (k : CoreState) → IsCore k → CanBeFollowed (views.heap_of k.table k.roots k.marker)
unfolding kept_of
can_begin k core = followed core.footing.graph (heap_of k) core.rests.shows.shows

-- in the third format all roots have room to wait
pub can_wait : (k : CoreState) → IsCore k → views.is_by_address k.config.format ≡ false → length k.roots ≤ k.marker.waiting.room
can_wait k core third =
    let room : k.marker.waiting.room ≡ root_places (root_counts_of k.config) =
    core.layers.waits ∙ ap (λ (b : Bool). if b then 0 else root_places (root_counts_of k.config)) third in
    omega (arith, room, core.places)

-- the same heap is shown
shows_same : (c : CoreState) (b : Buffers) (m : Marker) (ages : Ages)
    → views.heap_of c.table c.roots m ≡ views.heap_of c.table c.roots c.marker
    → (g : Graph) → ShowsGraph g c → ShowsGraph g (with_marker c b m ages)
unfolding kept_of
shows_same c b m ages e g s = record {
  room = s.room;
  places = s.places;
  next = s.next;
  shows = subst (λ (h : Heap). WillShow g h) (sym e) s.shows;
}

remembers_same : (c : CoreState) (b : Buffers) (m : Marker) (ages : Ages)
    → views.heap_of c.table c.roots m ≡ views.heap_of c.table c.roots c.marker
    → RemembersFields c → RemembersFields (with_marker c b m ages)
unfolding kept_of
remembers_same c b m ages e r = remembers_on c (with_marker c b m ages) refl refl refl refl
    (same_fields (kept_of c) (kept_of (with_marker c b m ages)) (λ a. ap (λ (h : Heap). h.kept a) e)) r

slots_marker : (c : CoreState) (b : Buffers) (m : Marker) (ages : Ages)
    → views.heap_of c.table c.roots m ≡ views.heap_of c.table c.roots c.marker
    → IsClearing c → IsClearing (with_marker c b m ages)
unfolding kept_of
slots_marker c b m ages e s = slots_same c (with_marker c b m ages) s refl (λ a. ap (λ (h : Heap). h.kept a) e) (λ a h. h)

-- marking begins
module _ (k : CoreState) (core : IsCore k) (b : Buffers) (m : Marker) (retires : b ≡ retired k.buffers)
    (stand : (t : Table) → BuffersStand t k.buffers → BuffersStand t b)
    (above : (t : Table) (limit : ℕ → ℕ) → ((n : ℕ) → n < length t.regions → limit n ≤ top_of t n) → AreAbove t b limit)
    (st : MarkerStands k.table m) (running : m.running ≡ true) (logs : m.logs ≡ k.marker.logs)
    (spare : m.waiting.room ≡ k.marker.waiting.room)
    (tops : m.tams.previous ≡ k.marker.tams.previous) (marks : m.bitmaps.previous ≡ k.marker.bitmaps.previous)
    (snapshot : (g : Graph) → WillShow g (views.heap_of k.table k.roots k.marker)
    → KeepsSnapshot g (views.heap_of k.table k.roots m) (views.marking_of k.table m))
    (shaped : IsShaped k.table) (next_tops : (n : ℕ) → n < length k.table.regions → slice_index m.tams.next n ≡ top_of k.table n) where
  heap_begun : views.heap_of k.table k.roots m ≡ views.heap_of k.table k.roots k.marker
  heap_begun = previous_heap k.table k.roots k.marker m tops marks

  pub begun_shows : (g : Graph) → ShowsGraph g k → ShowsGraph g (with_marker k b m (all_old k.ages))
  begun_shows = shows_same k b m (all_old k.ages) heap_begun

  pub begun_keeps : (g : Graph) → ShowsGraph g k → KeepsFrom g (with_marker k b m (all_old k.ages))
  unfolding kept_of
  begun_keeps g s = record { earlier = (let next = s.next in omega arith); marking = λ run. snapshot g s.shows }

  pub begun_from : (c : CoreState) → k ≡ c → Begins (views.heap_of k.table k.roots m) (views.marking_of k.table m)
      → BeginsBy (views.is_by_address k.config.format) m → m.scans ≡ restarted k.marker.scans
      → HasBegun c (with_marker k b m (all_old k.ages))
  unfolding kept_of
  begun_from c e begins roots scans = subst (λ (d : CoreState). HasBegun d (with_marker k b m (all_old k.ages))) e (record {
    same = ap (λ (x : Buffers). with_marker k x m (all_old k.ages)) retires;
    running = running;
    begins = begins;
    roots = roots;
    scans = scans;
    tops = next_tops;
    previous_tops = tops;
    previous_marks = marks;
  })

  pub begun_kept : IsCore (with_marker k b m (all_old k.ages))
  begun_kept = aged_over k core k.table b m k.cards k.sets k.roots (all_old k.ages) refl refl (record {
    region_size = core.layers.region_size;
    region_count = core.layers.region_count;
    buffer_size = ap (λ (x : Buffers). x.words) retires ∙ core.layers.buffer_size;
    open_buffers = ap (λ (x : Buffers). length x.open_buffers) retires
        ∙ length-replicate (length k.buffers.open_buffers) None ∙ core.layers.open_buffers;
    logs = ap (λ (ls : List (List ℕ)). length ls) logs ∙ core.layers.logs;
    waits = spare ∙ core.layers.waits;
    buffers = stand k.table core.layers.buffers;
    unmoved = core.layers.unmoved;
    marker = st;
    above_previous = above k.table (slice_index m.tams.previous) st.previous.top;
    above_next = above k.table (slice_index m.tams.next) st.next.top;
    room = λ n. rw logs (core.layers.room n);
    halves = core.layers.halves;
    wide = core.layers.wide;
  }) core.cards (remembers_same k b m (all_old k.ages) heap_begun core.remembers)
      (slots_marker k b m (all_old k.ages) heap_begun core.slots)
      (record { graph = core.footing.graph; snapshot = core.footing.graph }) (record {
        shows = begun_shows core.footing.graph core.rests.shows;
        keeps = begun_keeps core.footing.graph core.rests.shows;
        sound = core.rests.sound;
        unreached = unreached_begins core.footing.graph core.rests.sound;
        pairs = core.rests.pairs;
      })

-- marking goes on
module _ (k : CoreState) (core : IsCore k) (run : k.marker.running ≡ true) (m : Marker)
    (st : MarkerStands k.table m) (same : SameRoles k.marker m)
    (snapshots : KeepsSnapshots k.table k.marker m) (logs : m.logs ≡ k.marker.logs) where
  heap_marked : views.heap_of k.table k.roots m ≡ views.heap_of k.table k.roots k.marker
  heap_marked = same_heap k.table k.roots k.marker m same

  pub marked_shows : (g : Graph) → ShowsGraph g k → ShowsGraph g (with_marker k k.buffers m k.ages)
  marked_shows = shows_same k k.buffers m k.ages heap_marked

  pub marked_keeps : (s : Graph) → KeepsFrom s k → KeepsFrom s (with_marker k k.buffers m k.ages)
  unfolding kept_of
  marked_keeps s f = record {
    earlier = f.earlier;
    marking = λ on. snapshots s core.footing.graph k.roots core.rests.shows.shows (f.marking run);
  }

  pub marked_from : (c : CoreState) → k ≡ c → (units n : ℕ)
      → MarksUpTo (views.is_by_address k.config.format) k.table units n k.marker m → ScansMore k.marker m → Grows k.marker m
      → HasMarked units c (with_marker k k.buffers m k.ages)
  marked_from c e units n counted work grows =
      subst (λ (d : CoreState). HasMarked units d (with_marker k k.buffers m k.ages)) e (record {
        same = refl;
        units = n;
        counted = counted;
        objects = work.count;
        scans = work.scans;
        scanned = work.scanned;
        grows = grows;
        roles = same;
        logs = logs;
      })

  pub marked_kept : IsCore (with_marker k k.buffers m k.ages)
  marked_kept = core_stays k core k.table k.buffers m k.cards k.sets k.roots refl
      (layers_marked k.config k.table k.buffers k.marker m core.layers st same.tams same.room
      (ap (λ (ls : List (List ℕ)). length ls) logs) (λ n. rw logs (core.layers.room n)))
      core.cards (remembers_same k k.buffers m k.ages heap_marked core.remembers)
      (slots_marker k k.buffers m k.ages heap_marked core.slots) marked_shows marked_keeps
