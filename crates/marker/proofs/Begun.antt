-- Marking has begun: what is kept lies below the next tops, and what roots name is marked.
use Rattle.std.proofs.Common.{◌≡◌, ◌+◌, ◌-◌, ◌*◌, ◌/◌, ◌%◌, ◌<◌, ◌∷◌, ◌++◌, ◌∙◌, inl, inr, ℕ, zero, suc, Bool, true, false, cond, List, []}
use Rattle.std.proofs.Common.{Option, Some, None, length, get_or, replicate, sym, ap, subst, arith, Contains, slice_get}
use Rattle.std.proofs.lemmas.Bool.{cases_lt, lt-ltb}
use Rattle.std.proofs.lemmas.List.{get_or_past, length-replicate}
use Rattle.std.proofs.lemmas.List.Folds.{sum_by-replicate}
use Rattle.std.proofs.lemmas.List.Elements.{Contains-append_left, Contains-append_right, Contains-append_cases}
use Rattle.std.proofs.lemmas.Option.{slice_get_within}
use Rattle.heap_model.specs.Clearing.{CanBeFollowed}
use Rattle.heap_model.specs.Heap.{Heap, Stored}
use Rattle.heap_model.specs.Marking.{Begins}
use Rattle.regions.specs.Tiles.{Tile, Object, tile_size, tile_at, total_size}
use Rattle.regions.specs.Table.{Region, Free, Ordinary, First, Rest, Table, region_tile, region_at, nth_region}
use Rattle.regions.specs.Table.{region_used, used_of, top_of, tile_in, object_at}
use Rattle.regions.proofs.Words.Parse.{past}
use Rattle.regions.proofs.Tiles.Laws.{object_tile, known_region}
use Rattle.mark_bitmap.specs.Marks.{is_marked, marked_count}
use Rattle.mark_bitmap.specs.Tops.{Tops, is_below, below_next}
use Rattle.mark_bitmap.specs.Grey.{Scans, HasFingers, KeepsPlace}
use Rattle.mark_bitmap.specs.Kept.{MarksObjects}
use Rattle.mark_bitmap.proofs.ObjectLaws.{none_marked}
use Rattle.satb_log.specs.Logs.{logged}
use Rattle.marker.specs.Views.{heap_of, marking_of, untaken}
use Rattle.marker.specs.Waiting.{Waiting}
use Rattle.marker.specs.Roots.{IsInFirst, AreHeldBy}
use Rattle.marker.specs.Stands.{IsKept, MarkerStands}
use Rattle.marker.specs.Counts.{ScanTotals, restarted}
use Rattle.marker.specs.Live.{CountsWords}
use Rattle.marker.specs.Steps.{SameRoles, MarksWanted}
use Rattle.marker.specs.declared.marker.Marker.{Marker}
use Rattle.marker.proofs.Views.{kept_object, kept_before, previous_heap, same_heap, same_untaken}
use Rattle.marker.proofs.LiveCounts.{counts_none}
use Rattle.marker.proofs.Done.{done_whole}

none_in : (a : ℕ) → Contains [] a → ⊥
none_in a (place, inside, is) = omega (arith, inside)

-- while marking doesn't run nothing is left to be taken
pub idle_untaken : (t : Table) (m : Marker) → MarkerStands t m → m.running ≡ false → untaken m ≡ []
idle_untaken t m st off = ap (λ (xs : List ℕ). xs ++ logged m.logs) (st.none_wait off) ∙ st.idle off

-- the marker with other roots that wait
abbrev pub with_waiting : Marker → Waiting → Marker
with_waiting m w = record {
  bitmaps = m.bitmaps;
  tams = m.tams;
  grey = m.grey;
  logs = m.logs;
  running = m.running;
  scans = m.scans;
  live = m.live;
  waiting = w;
}

pub waiting_kept : (t : Table) (m : Marker) (w : Waiting) (a : ℕ) → IsKept t m a → IsKept t (with_waiting m w) a
waiting_kept t m w a k = record { object = k.object; is = k.is }

-- an object starts below the end of its region's tiles
object_in_total : (ts : List Tile) (o : ℕ) (s : Stored) → tile_at o ts ≡ Some (Object s) → o < total_size ts
object_in_total [] o s e = cc
object_in_total (t ∷ ts) zero s e = let same : t ≡ Object s = cc in omega (arith, ap tile_size same)
object_in_total (t ∷ ts) (suc o) s e =
    let p = past (tile_size t) (suc o) _ (Object s) e in
    omega (arith, p.0, object_in_total ts (suc o - tile_size t) s p.1)

object_in_used : (size : ℕ) (r : Region) (o : ℕ) (s : Stored) → 0 < size → region_tile r o ≡ Some (Object s) → o < region_used size r
object_in_used size Free o s z e = cc
object_in_used size (Ordinary ts) o s z e = object_in_total ts o s e
object_in_used size (First q) zero s z e = omega arith
object_in_used size (First q) (suc o) s z e = cc
object_in_used size (Rest n) o s z e = cc

-- and below the next top, where this is its region's top
pub object_below : (t : Table) (tops : List ℕ) (a : ℕ) (s : Stored) → 0 < t.words_per_region
    → ((k : ℕ) → k < length t.regions → get_or tops k 0 ≡ top_of t k) → object_at t a ≡ Some s → is_below t.words_per_region tops a ≡ true
unfolding object_at tile_in region_at used_of nth_region is_below
object_below t tops a s z tops_are e =
    let words : ℕ = t.words_per_region in
    let k : ℕ = a / words in
    let tile = object_tile _ s e in
    let known = known_region t.regions k (a % words) (Object s) tile in
    let inside = object_in_used words (get_or t.regions k Free) (a % words) s z tile in
    let whole : k * words + a % words ≡ a = omega arith in
    lt-ltb a (get_or tops k 0) (omega (arith, tops_are k known, inside, whole))

-- the marker m was made ready: all that is kept is old, nothing is marked, scanned or left to be taken
pub record IsReady (t : Table) (roots : List (Option ℕ)) (m : Marker) : Type 0 where
  pub positive : 0 < t.words_per_region
  pub tops : (k : ℕ) → k < length t.regions → get_or m.tams.next k 0 ≡ top_of t k
  pub unmarked : (a : ℕ) → is_marked m.bitmaps.next a ≡ false
  pub unscanned : (a : ℕ) → is_marked m.grey.scanned a ≡ false
  pub whole : m.grey.looked ≡ 0
  pub nothing : untaken m ≡ []
  pub kept : (j a : ℕ) → slice_get roots j ≡ Some (Some a) → IsKept t m a

pub made_ready : (t : Table) (roots : List (Option ℕ)) (m m' : Marker) → 0 < t.words_per_region → MarkerStands t m → m.running ≡ false
    → CanBeFollowed (heap_of t roots m) → ((k : ℕ) → k < length t.regions → get_or m'.tams.next k 0 ≡ top_of t k)
    → ((a : ℕ) → is_marked m'.bitmaps.next a ≡ false) → ((a : ℕ) → is_marked m'.grey.scanned a ≡ false)
    → m'.grey.looked ≡ 0 → m'.tams.previous ≡ m.tams.previous → m'.bitmaps.previous ≡ m.bitmaps.previous → m'.logs ≡ m.logs
    → m'.waiting ≡ m.waiting → IsReady t roots m'
made_ready t roots m m' z st off closed tops unmarked unscanned whole low marks logs waiting = record {
  positive = z;
  tops = tops;
  unmarked = unmarked;
  unscanned = unscanned;
  whole = whole;
  nothing = same_untaken m m' waiting logs ∙ idle_untaken t m st off;
  kept = λ j a e. kept_before t roots m m' a low marks (closed.root j a e);
}

ready_old : (t : Table) (roots : List (Option ℕ)) (m : Marker) → IsReady t roots m → (a : ℕ) → IsKept t m a
    → below_next t m.tams a ≡ true
ready_old t roots m r a k =
    object_below t m.tams.next a k.object r.positive r.tops (kept_object t m.tams m.bitmaps.previous a k.object k.is)

-- all roots were reached since
pub all_begun : (t : Table) (roots : List (Option ℕ)) (m m' : Marker) → IsReady t roots m
    → MarksWanted t (IsInFirst roots (length roots)) m m' → SameRoles m m' → m'.grey.scanned ≡ m.grey.scanned
    → KeepsPlace m.grey m'.grey → m'.logs ≡ m.logs → m'.waiting ≡ m.waiting → Begins (heap_of t roots m') (marking_of t m')
all_begun t roots m m' r marks same scanned place logs waiting =
    let left : untaken m' ≡ [] = same_untaken m m' waiting logs ∙ r.nothing in
    record {
      old = λ a x e.
          let kept : IsKept t m a = record { object = x; is = ap (λ (h : Heap). h.kept a) (sym (same_heap t roots m m' same)) ∙ e } in
          ap (λ (x : Tops). below_next t x a) same.tams ∙ ready_old t roots m r a kept;
      roots = λ a q. inl (marks.each a (record { place = q.place; front = slice_get_within roots q.place (Some a) q.is; is = q.is })
          (ready_old t roots m r a (r.kept q.place a q.is)));
      marked = λ a k. elim (marks.only a k) [
        | inl was ↦ absurd (let e = r.unmarked a in cc)
        | inr w ↦ record { place = w.place; is = w.is }
      ];
      logged = λ a l. absurd (none_in a (subst (λ (xs : List ℕ). Contains xs a) left l));
      scanned = λ a. ap (λ (b : List Bool). is_marked b a) scanned ∙ r.unscanned a;
      done = λ a. done_whole m'.grey a (place.looked ∙ r.whole);
    }

-- all roots wait since: what is untaken is named by a root
waits_in : (t : Table) (roots : List (Option ℕ)) (m : Marker) (w : Waiting) → IsReady t roots m
    → AreHeldBy roots (length roots) w.addresses → (a : ℕ) → Contains (untaken (with_waiting m w)) a → IsInFirst roots (length roots) a
waits_in t roots m w r held a l = elim (Contains-append_cases w.addresses (logged m.logs) a l) [
  | inl waits ↦ held.only a waits
  | inr in_logs ↦ absurd (none_in a (subst (λ (xs : List ℕ). Contains xs a) r.nothing
      (Contains-append_right m.waiting.addresses (logged m.logs) a in_logs)))
]

pub all_wait : (t : Table) (roots : List (Option ℕ)) (m : Marker) (w : Waiting) → IsReady t roots m
    → AreHeldBy roots (length roots) w.addresses → Begins (heap_of t roots (with_waiting m w)) (marking_of t (with_waiting m w))
all_wait t roots m w r held =
    record {
      old = λ a x e. ready_old t roots m r a (record { object = x; is = e });
      roots = λ a q. inr (Contains-append_left w.addresses (logged m.logs) a
          (held.each a (record { place = q.place; front = slice_get_within roots q.place (Some a) q.is; is = q.is })));
      marked = λ a k. absurd (let e = r.unmarked a in cc);
      logged = λ a l. let i = waits_in t roots m w r held a l in record { place = i.place; is = i.is };
      scanned = r.unscanned;
      done = λ a. done_whole m.grey a r.whole;
    }

-- and the marker stands
pub waiting_stands : (t : Table) (roots : List (Option ℕ)) (m : Marker) (w : Waiting) → IsReady t roots m → MarkerStands t m
    → m.running ≡ true → AreHeldBy roots (length roots) w.addresses → MarkerStands t (with_waiting m w)
waiting_stands t roots m w r st run held =
    let f = st.follows run in
    let kept : (a : ℕ) → Contains (untaken (with_waiting m w)) a → IsKept t m a =
    λ a l. let i = waits_in t roots m w r held a l in r.kept i.place a i.is in
    record {
      previous = st.previous;
      next = st.next;
      scanned = st.scanned;
      finger = st.finger;
      newer = st.newer;
      follows = λ _. record {
        closed = f.closed;
        marked = λ a h. waiting_kept t m w a (f.marked a h);
        logged_kept = λ a l. waiting_kept t m w a (kept a l);
        logged_below = λ a l. ready_old t roots m r a (kept a l);
      };
      idle = λ off. absurd (let g = run in cc);
      none_wait = λ off. absurd (let g = run in cc);
      scanned_marked = st.scanned_marked;
      counted = st.counted;
      part = st.part;
      live = st.live;
      live_next = st.live_next;
    }

-- marking begins with nothing marked: all that is there is old
pub started_stands : (t : Table) (m m' : Marker) → MarkerStands t m → m.running ≡ false → CanBeFollowed (heap_of t [] m) → m'.running ≡ true
    → m'.bitmaps.previous ≡ m.bitmaps.previous → m'.bitmaps.next ≡ replicate (length m.bitmaps.next) false
    → m'.tams.previous ≡ m.tams.previous → length m'.tams.next ≡ length m.tams.next
    → ((k : ℕ) → k < length t.regions → get_or m'.tams.next k 0 ≡ top_of t k)
    → m'.grey ≡ record {
      scanned = replicate (length m.grey.scanned) false;
      fingers = replicate (length m.grey.fingers) false;
      held = None;
      looked = 0;
      stack = record { objects = []; room = m.grey.stack.room };
    }
    → ((marks : List Bool) → ((a : ℕ) → is_marked marks a ≡ false) → HasFingers marks m'.grey)
    → m'.logs ≡ m.logs → m'.waiting ≡ m.waiting → m'.scans ≡ restarted m.scans → m'.live.previous ≡ m.live.previous
    → m'.live.next ≡ replicate (length m.live.next) 0 → MarkerStands t m'
started_stands t m m' st off closed on previous next low len high grey fingers logs waiting scans live live_next =
    let unmarked : (a : ℕ) → is_marked m'.bitmaps.next a ≡ false =
    λ a. ap (λ (b : List Bool). get_or b a false) next ∙ none_marked (length m.bitmaps.next) a in
    let unscanned : (a : ℕ) → is_marked m'.grey.scanned a ≡ false =
    λ a. ap (λ (g : Scans). get_or g.scanned a false) grey ∙ none_marked (length m.grey.scanned) a in
    let nothing : untaken m' ≡ [] = same_untaken m m' waiting logs ∙ idle_untaken t m st off in
    record {
      previous = subst (λ (b : List Bool). MarksObjects t m'.tams.previous b) (sym previous)
          (subst (λ (l : List ℕ). MarksObjects t l m.bitmaps.previous) (sym low) st.previous);
      next = record {
        each_region = len ∙ st.next.each_region;
        each_word = ap length next ∙ length-replicate (length m.bitmaps.next) false ∙ st.next.each_word;
        bottom = λ k h. omega (arith, high k h);
        top = λ k h. omega (arith, high k h);
        object = λ a h. absurd (let e = unmarked a in cc);
        below = λ a h. absurd (let e = unmarked a in cc);
      };
      scanned = ap (λ (g : Scans). length g.scanned) grey ∙ length-replicate (length m.grey.scanned) false ∙ st.scanned
          ∙ sym (ap length next ∙ length-replicate (length m.bitmaps.next) false);
      finger = λ _. fingers m'.bitmaps.next unmarked;
      newer = λ _ k. elim (cases_lt k (length t.regions)) [
        | inl known ↦ omega (arith, ap (λ (l : List ℕ). get_or l k 0) low, high k known, st.previous.top k known)
        | inr past ↦ omega (
          arith,
          ap (λ (l : List ℕ). get_or l k 0) low,
          get_or_past m.tams.previous k 0 (omega (arith, past, st.previous.each_region)),
        )
      ];
      follows = λ _. record {
        closed = subst CanBeFollowed (sym (previous_heap t [] m m' low previous)) closed;
        marked = λ a h. absurd (let e = unmarked a in cc);
        logged_kept = λ a l. absurd (none_in a (subst (λ (xs : List ℕ). Contains xs a) nothing l));
        logged_below = λ a l. absurd (none_in a (subst (λ (xs : List ℕ). Contains xs a) nothing l));
      };
      idle = λ no. absurd (let e = on in cc);
      none_wait = λ no. absurd (let e = on in cc);
      scanned_marked = λ _ a h. absurd (let e = unscanned a in cc);
      counted = λ _. ap (λ (s : ScanTotals). s.since) scans
          ∙ sym (ap (λ (g : Scans). marked_count g.scanned) grey ∙ none_counted (length m.grey.scanned));
      part = λ _ a held. absurd (let none = ap (λ (g : Scans). g.held) grey in cc);
      live = subst (λ (b : List Bool). CountsWords t b m'.live.previous) (sym previous)
          (subst (λ (l : List ℕ). CountsWords t m.bitmaps.previous l) (sym live) st.live);
      live_next = counts_none t m'.bitmaps.next m'.live.next (length m.live.next) live_next st.live_next.each_region unmarked;
    }
  where
    none_counted : (n : ℕ) → marked_count (replicate n false) ≡ 0
    none_counted n = omega (arith, sum_by-replicate (λ (b : Bool). cond b 1 0) n false)
