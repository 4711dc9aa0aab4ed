-- Marking ends in a core: k is the core by its fields before that.
use Rattle.std.proofs.Common.{◌≡◌, ◌<◌, ◌∷◌, ◌∙◌, ℕ, zero, suc, true, false, List, [], Option, Some, None, length}
use Rattle.std.proofs.Common.{refl, ap, subst, arith, slice_get}
use Rattle.heap_model.specs.Graph.{Graph}
use Rattle.heap_model.specs.Heap.{Stored, fields}
use Rattle.heap_model.specs.Weak.{ClearsObject}
use Rattle.heap_model.proofs.Lists.{AllZip_length}
use Rattle.heap_model.proofs.Unreached.{unreached_begins, cleared_sound}
use Rattle.mark_bitmap.specs.Marks.{is_marked, marked_count}
use Rattle.mark_bitmap.specs.Tops.{exchanged}
use Rattle.satb_log.specs.Logs.{log_of, logged}
use Rattle.marker.specs.Stands.{MarkerStands}
use Rattle.marker.specs.Steps.{ScansMore}
use Rattle.marker.specs.Ends.{EndsMarking, EndsExactly}
use Rattle.step_core.proofs.Cores.Bare.{pairs_cleared}
use Rattle.marker.specs.declared.marker.Marker.{Marker}
use Rattle.refinement.specs.Remembering.{IsCrossing}
use Rattle.graph_runs.specs.State.{ForSnapshot}
use Rattle.step_core.specs.Stands.{CoreState, kept_of, RemembersFields, ShowsGraph, KeepsFrom, KeepsFor, IsClearing, IsCore}
use Rattle.step_core.proofs.Cores.Resting.{core_clearing}
use Rattle.step_core.specs.Cycle.{HasRemarked, ShowsCleared}
use Rattle.step_core.proofs.Mutating.Reading.{object_kept}

-- logs that hold nothing together are empty
none_in : (ls : List (List ℕ)) (n : ℕ) → logged ls ≡ [] → length (log_of ls n) ≡ 0
none_in [] n e = refl
none_in ([] ∷ ls) zero e = refl
none_in ([] ∷ ls) (suc n) e = none_in ls n e
none_in ((x ∷ l) ∷ ls) n e = absurd cc

-- marking ends
module _ (k : CoreState) (core : IsCore k) (run : k.marker.running ≡ true) (m : Marker) (n : ℕ)
    (st : MarkerStands k.table m) (over : m.running ≡ false) (exact : EndsExactly k.table k.marker m n)
    (tops : m.tams ≡ exchanged k.marker.tams) (logs : length m.logs ≡ length k.marker.logs)
    (spare : m.waiting.room ≡ k.marker.waiting.room) where
  abbrev after : CoreState
  after = record k { marker = m; clearing = Some 0 }

  remarked_by : (s g : Graph) → ShowsGraph g k → KeepsFrom s k → ShowsCleared s g after
  unfolding kept_of
  remarked_by s g shows f =
      let ends = exact.ends s g k.roots shows.shows (f.marking run) in
      let c = ends.clears in
      let count = AllZip_length (ClearsObject s) g.objects ends.after.objects c.objects in
      record {
        after = ends.after;
        clears = c;
        shows = record {
          room = c.room ∙ shows.room;
          places = c.places ∙ shows.places;
          next = (let next = shows.next in let first = c.first_name in omega (arith, next, first, count));
          shows = ends.shows;
        };
      }

  pub remarked_shows : (c : CoreState) → k ≡ c → (s g : Graph) → ShowsGraph g c → KeepsFrom s c → ShowsCleared s g after
  remarked_shows c e = subst (λ (d : CoreState). (s g : Graph) → ShowsGraph g d → KeepsFrom s d → ShowsCleared s g after) e remarked_by

  own : EndsMarking core.footing.snapshot core.footing.graph k.table k.roots k.marker m n
  unfolding kept_of
  own = exact.ends core.footing.snapshot core.footing.graph k.roots core.rests.shows.shows (core.rests.keeps.marking run)

  -- what is kept then was kept before
  was_crossing : (a i v : ℕ) → IsCrossing k.table.words_per_region (kept_of after) a i v
      → IsCrossing k.table.words_per_region (kept_of k) a i v
  unfolding kept_of
  was_crossing a i v x =
      let w = own.kept a x.object x.kept_is in
      let same : w.before ≡ x.object = let e1 = object_kept after a x.object x.kept_is in let e2 = object_kept k a w.before w.was in cc in
      record {
        object = w.before;
        kept_is = w.was;
        field_is = ap (λ (z : Stored). slice_get (fields z) i) same ∙ x.field_is;
        leaves = x.leaves;
      }

  remarked_remembers : RemembersFields after
  remarked_remembers = record { each = λ a i v x. core.remembers.each a i v (was_crossing a i v x) }

  -- no object is cleared, and each slot leads to an object
  remarked_slots : IsClearing after
  unfolding kept_of
  remarked_slots = record {
    cleared = λ a b p w. absurd (let low : a < 0 = p in omega arith);
    lead = exact.lead core.footing.snapshot core.footing.graph k.roots core.rests.shows.shows
        (core.rests.keeps.marking run) core.slots.lead;
  }

  module _ (scans : m.scans.since ≡ n) (counted : m.scans.since ≡ marked_count m.grey.scanned) (work : ScansMore k.marker m)
      (scanned : (a : ℕ) → is_marked k.marker.grey.scanned a ≡ true → is_marked m.grey.scanned a ≡ true)
      (previous : m.bitmaps.next ≡ k.marker.bitmaps.previous) where
    ends_for : (sn : Option Graph) (g : Graph) → ShowsGraph g k → KeepsFor sn k
        → ForSnapshot sn (λ s. EndsMarking s g k.table k.roots k.marker m n)
    unfolding kept_of
    ends_for None g shows keeps = tt
    ends_for (Some s) g shows keeps = exact.ends s g k.roots shows.shows (keeps.1.marking run)

    pub remarked_from : (c : CoreState) → k ≡ c → HasRemarked n c after
    unfolding kept_of
    remarked_from c e = subst (λ (d : CoreState). HasRemarked n d after) e (record {
      same = refl;
      over = over;
      ends = λ s stands. ends_for s.snapshot s.graph stands.shows stands.keeps;
      quiet = λ g stands. exact.quiet g k.roots stands.shows.shows (stands.keeps.1.marking run);
      scans = scans;
      counted = counted;
      work = work;
      scanned = scanned;
      tops = tops;
      marks = previous;
    })

  pub remarked_kept : IsCore after
  remarked_kept =
      let mine = remarked_by core.footing.snapshot core.footing.graph core.rests.shows core.rests.keeps in
      let sound = cleared_sound core.footing.snapshot core.footing.graph mine.after mine.clears core.rests.sound in
      core_clearing k core k.table m (Some 0) (record {
        region_size = core.layers.region_size;
        region_count = core.layers.region_count;
        buffer_size = core.layers.buffer_size;
        open_buffers = core.layers.open_buffers;
        logs = logs ∙ core.layers.logs;
        waits = spare ∙ core.layers.waits;
        buffers = core.layers.buffers;
        unmoved = core.layers.unmoved;
        marker = st;
        above_previous = rw tops core.layers.above_next;
        above_next = rw tops core.layers.above_previous;
        room = λ i. let none = none_in m.logs i (st.idle over) in omega arith;
        halves = core.layers.halves;
        wide = core.layers.wide;
      }) remarked_remembers remarked_slots (record { graph = mine.after; snapshot = mine.after }) (record {
        shows = mine.shows;
        keeps = record { earlier = (let next = mine.shows.next in omega (arith, next)); marking = λ on. absurd cc };
        sound = sound;
        unreached = unreached_begins mine.after sound;
        pairs = pairs_cleared core.footing.snapshot core.footing.graph mine.after mine.clears core.rests.pairs;
      })
