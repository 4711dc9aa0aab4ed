-- The chosen regions are evacuated in a core: k is the core by its fields before that.
use Rattle.std.proofs.Common.{None, ◌≡◌, ◌+◌, ◌*◌, ◌/◌, ◌<◌, ◌≤◌, ◌&&◌, ◌∙◌, ℕ, Bool, true, false, not, List, Option, Some, length, refl}
use Rattle.std.proofs.Common.{sym}
use Rattle.std.proofs.Common.{ap, subst, arith, inl, inr, All, ◌↔◌, slice_index, nat_lt, if◌then◌else◌}
use Rattle.std.proofs.lemmas.Bool.{cases_Bool, ltb-true}
use Rattle.std.proofs.lemmas.List.Elements.{All-weaker}
use Rattle.heap_model.specs.Graph.{Graph, IsReachable, next_name}
use Rattle.heap_model.specs.Heap.{Stored, Shows}
use Rattle.heap_model.specs.Marking.{SameMarking}
use Rattle.heap_model.specs.Relocation.{KeepsOld}
use Rattle.heap_model.specs.Evacuation.{place_after}
use Rattle.heap_model.proofs.Shown.{will_show}
use Rattle.step_core.proofs.Cores.Slots.{shows_now, all_closed, slots_now}
use Rattle.heap_model.proofs.Relocated.{relocated_shows, relocated_invariant}
use Rattle.heap_model.proofs.Same.{same_invariant}
use Rattle.regions.specs.Tiles.{Object, tile_size}
use Rattle.regions.specs.Table.{Table, object_at, object_words, pointers_at}
use Rattle.alloc_buffers.specs.Placement as placement
use Rattle.alloc_buffers.specs.Placement.{Buffers, BuffersStand}
use Rattle.alloc_buffers.proofs.Placed.{closed_stand, retired_above}
use Rattle.mark_bitmap.specs.Marks.{is_marked}
use Rattle.mark_bitmap.specs.Grey.{is_grey}
use Rattle.mark_bitmap.specs.Tops.{Tops, is_below, below_next, AreNewer}
use Rattle.mark_bitmap.specs.declared.bitmaps.Bitmaps.{Bitmaps}
use Rattle.mark_bitmap.proofs.Ranges as ranges
use Rattle.mark_bitmap.specs.Live.{marked_words}
use Rattle.mark_bitmap.proofs.LiveWords.{none_words}
use Rattle.cards.specs.Cards.{Cards, is_dirty}
use Rattle.remembered_sets.specs.Sets.{Sets, card_count}
use Rattle.marker.specs.Stands.{MarkerStands}
use Rattle.marker.specs.Live.{LiveCounts, CountsWords}
use Rattle.marker.proofs.LiveCounts.{marked_words_same}
use Rattle.marker.proofs.Scanned.{grey_is}
use Rattle.marker.specs.declared.marker.Marker.{Marker}
use Rattle.region_choice.specs.declared.LiveRow.{LiveRow}
use Rattle.region_choice.specs.Ages.{Ages, AgesAfter}
use Rattle.evacuation.proofs.WholePause.ChosenReleased.{mark_gone, mark_left, top_gone, top_left}
use Rattle.heap_steps.specs.Actors.{is_third}
use Rattle.evacuation.specs.Evacuates.{CanEvacuate, HasEvacuated, IsLiveRow, IsNewSet, IsSameBut, MarksAfter, is_chosen, set_in}
use Rattle.heap_words.specs.Configs.{card_words, object_limit}
use Rattle.step_core.proofs.Mutating.Noting.{cards_a_region}
use Rattle.step_core.specs.Stands.{root_counts_of, CoreState, kept_of, heap_of, marking_of, ShowsGraph, KeepsFrom, LayersFit, IsCore}
use Rattle.step_core.specs.Reclaimed.{IsReclaimed}
use Rattle.step_core.specs.declared.candidates.Choice.{Choice}
use Rattle.step_core.specs.Pause.{IsSetOf, IsRowOf, IsReady, AreForgotten, EvacuatesSet, HasMoved, layers_of}
use Rattle.heap_words.specs.declared.config.Config.{Config}
use Rattle.step_core.proofs.Pauses.CopiedNames.{copied_names}
use Rattle.step_core.proofs.Cores.Layers.{follows_of}
use Rattle.step_core.proofs.Pauses.Ready.{ready_config, ready_table, ready_marker, ready_roots, ready_next, ready_ages}
use Rattle.step_core.proofs.Pauses.Refined.{sets_fit}
use Rattle.step_core.proofs.Cores.Resting.{aged_stays}
use Rattle.step_core.proofs.Cores.Sizes.{some_words}
use Rattle.step_core.proofs.Mutating.Small.{pointers_are, words_are, ordinary_known}
use Rattle.step_core.proofs.Pauses.Wide.{wide_after}
use Rattle.step_core.proofs.Pauses.Chosen.{MayMove, set_moves, chosen_rows, chosen_distinct}
use Rattle.step_core.proofs.Pauses.Chosen.{chosen_room, chosen_within, chosen_ordinary, chosen_new}

-- there is a flag for each card
pub cards_room : (k : CoreState) → IsCore k → k.room.cards ≡ card_count k.sets
cards_room k core =
    let each = cards_a_region k core in
    core.room.cards ∙ ap (λ (n : ℕ). k.config.regions * n) each ∙ ap (λ (n : ℕ). n * k.sets.cards_per_region) (sym core.cards.each_region)

module _ (k : CoreState) (core : IsCore k) (which : Choice) (budget : ℕ) (chosen : List LiveRow)
    (choice : IsSetOf which k.table k.marker.tams k.marker.bitmaps.previous k.marker.running k.sets k.ages budget chosen)
    (clean : (card : ℕ) → is_dirty k.cards card ≡ false) (none : k.clearing ≡ None) where
  may : MayMove k.table k.marker.tams k.marker.bitmaps.previous k.marker.running budget chosen
  may = set_moves which k.table k.marker.tams k.marker.bitmaps.previous k.marker.running k.sets k.ages budget chosen choice

  words : ℕ
  words = k.table.words_per_region

  row_of : (x : LiveRow) → IsRowOf k.table k.marker.tams.previous k.marker.bitmaps.previous x → IsLiveRow (layers_of k) x
  row_of x r = record { known = r.known; ordinary = r.ordinary; live_bound = r.bound }

  pub can_evacuate : CanEvacuate (layers_of k) chosen (card_words k.config)
  unfolding kept_of
  can_evacuate = record {
    unmoved = core.layers.unmoved;
    previous = core.layers.marker.previous;
    next = core.layers.marker.next;
    closed = all_closed k core none;
    halves = core.layers.halves;
    fit = sets_fit k core;
    each_card = core.cards.each_card;
    clean = clean;
    remembers = core.remembers;
    each_row = All-weaker (IsRowOf k.table k.marker.tams.previous k.marker.bitmaps.previous) (IsLiveRow (layers_of k)) row_of chosen
        (chosen_rows k.table k.marker.tams k.marker.bitmaps.previous k.marker.running budget chosen may);
    distinct = chosen_distinct k.table k.marker.tams k.marker.bitmaps.previous k.marker.running budget chosen may;
    room = chosen_room k.table k.marker.tams k.marker.bitmaps.previous k.marker.running budget chosen may;
  }

  -- each chosen region is one of which words are counted
  pub chosen_known : (counts : List ℕ) → length counts ≡ length k.table.regions → All (λ row. row.region < length counts) chosen
  chosen_known counts count = All-weaker (IsRowOf k.table k.marker.tams.previous k.marker.bitmaps.previous) (λ row.
      row.region < length counts) (λ x r. omega (arith, r.known, count)) chosen
      (chosen_rows k.table k.marker.tams k.marker.bitmaps.previous k.marker.running budget chosen may)

  pub next_count : length k.marker.live.next ≡ length k.table.regions
  next_count = core.layers.marker.live_next.each_region

  module _ (t : Table) (tams : Tops) (bm : Bitmaps) (cs : Cards) (ss : Sets) (roots : List (Option ℕ)) (w : ℕ)
      (live : LiveCounts)
      (ev : HasEvacuated chosen (is_third k.config.format) (card_words k.config) w (layers_of k)
      (record { table = t; tams = tams; previous = bm.previous; next = bm.next; cards = cs; sets = ss; roots = roots }))
      (forgets : AreForgotten chosen k.marker.live live) (ages : Ages) (aged : AgesAfter (is_chosen chosen) k.ages ages) where
    abbrev marker : Marker
    marker = record {
      bitmaps = bm;
      tams = tams;
      grey = k.marker.grey;
      logs = k.marker.logs;
      running = k.marker.running;
      scans = k.marker.scans;
      live = live;
      waiting = k.marker.waiting;
    }

    abbrev after : CoreState
    after = record k { table = t; marker = marker; cards = cs; sets = ss; roots = roots; ages = ages }

    abbrev place : ℕ → Option ℕ
    place = place_after (set_in k.table.words_per_region chosen) ev.forward

    paused_exactly : (g : Graph) → ShowsGraph g k → Shows g (heap_of after)
    unfolding kept_of
    paused_exactly g s = relocated_shows place g (heap_of k) (heap_of after) (shows_now k core none g s) ev.relocates

    pub paused_shows : (g : Graph) → ShowsGraph g k → ShowsGraph g after
    unfolding kept_of
    paused_shows g s = record {
      room = s.room;
      places = s.places;
      next = s.next;
      shows = will_show g (heap_of after) (paused_exactly g s);
    }

    -- ---- tops at mark start and marks
    tops_chosen : (tops tops' : List ℕ) (marks marks' : List Bool)
        → MarksAfter k.table.words_per_region (is_chosen chosen) tops tops' marks marks' → length tops ≡ length k.table.regions
        → (j : ℕ) → is_chosen chosen j ≡ true → slice_index tops' j ≡ j * k.table.words_per_region
    tops_chosen tops tops' marks marks' m count j inside =
        let known = ordinary_known k.table j
        (chosen_ordinary k.table k.marker.tams k.marker.bitmaps.previous k.marker.running budget chosen may j inside) in
        top_gone m j (omega (arith, count, known)) inside

    next_same : k.marker.running ≡ true → (j : ℕ) → slice_index tams.next j ≡ slice_index k.marker.tams.next j
    next_same run j =
        elim (cases_Bool (is_chosen chosen j)) [
          | inl inside ↦
              tops_chosen k.marker.tams.next tams.next k.marker.bitmaps.next bm.next ev.next core.layers.marker.next.each_region j inside
              ∙ sym (chosen_new k.table k.marker.tams k.marker.bitmaps.previous k.marker.running budget chosen may j run inside)
          | inr out ↦ top_left ev.next j out
        ]

    old_same : k.marker.running ≡ true → (a : ℕ) → below_next t tams a ≡ below_next k.table k.marker.tams a
    unfolding is_below
    old_same run a =
        ap (λ (m : ℕ). nat_lt a (slice_index tams.next (a / m))) ev.regions.size
        ∙ ap (λ (m : ℕ). nat_lt a m) (next_same run (a / k.table.words_per_region))

    -- nothing of the set is marked while marking runs
    none_marked : k.marker.running ≡ true → (a : ℕ) → set_in k.table.words_per_region chosen a ≡ true
        → is_marked k.marker.bitmaps.next a ≡ false
    unfolding is_below
    none_marked run a inside =
        elim (cases_Bool (is_marked k.marker.bitmaps.next a)) [
          | inl marked ↦
              let below = core.layers.marker.next.below a marked in
              let bottom = chosen_new k.table k.marker.tams k.marker.bitmaps.previous k.marker.running budget chosen may
              (a / k.table.words_per_region) run inside in
              let z = some_words k core in
              absurd (not_below a (slice_index k.marker.tams.next (a / k.table.words_per_region)) below (omega (arith, bottom)))
          | inr no_mark ↦ no_mark
        ]
      where
        not_below : (x top : ℕ) → nat_lt x top ≡ true → top ≤ x → ⊥
        not_below x top e le = let lt = ltb-true x top e in omega (arith, lt, le)

    marks_same : k.marker.running ≡ true → (a : ℕ) → is_marked bm.next a ≡ is_marked k.marker.bitmaps.next a
    marks_same run a =
        elim (cases_Bool (set_in k.table.words_per_region chosen a)) [
          | inl inside ↦ mark_gone ev.next a inside ∙ sym (none_marked run a inside)
          | inr out ↦ mark_left ev.next a out
        ]

    same_marking : k.marker.running ≡ true → SameMarking (marking_of k) (marking_of after)
    same_marking run = record {
      old = old_same run;
      marked = marks_same run;
      scanned = λ a. refl;
      done = λ a. refl;
      logged = λ a. (λ x. x, λ x. x);
    }

    all_new : k.marker.running ≡ true → IsNewSet (layers_of k) chosen
    all_new run = may.all_new run

    pub paused_keeps : (s : Graph) → KeepsFrom s k → KeepsFrom s after
    unfolding kept_of
    paused_keeps s f = record {
      earlier = f.earlier;
      marking = λ run.
          let keeps : KeepsOld place (heap_of k) (marking_of k) = ev.keeps_old (all_new run) (marking_of k) (λ a. refl) in
          let moved = relocated_invariant place core.footing.graph (heap_of k) (heap_of after)
          (shows_now k core none core.footing.graph core.rests.shows) ev.relocates
          (IsReachable s) (next_name s) (marking_of k) (f.marking run) keeps in
          same_invariant (IsReachable s) (next_name s) (heap_of after) (heap_of after) (marking_of k) (marking_of after)
          (record { kept = λ a. refl; roots = refl }) (same_marking run) moved;
    }

    -- ---- the layers
    newer : k.marker.running ≡ true → AreNewer tams
    newer run = λ j.
        elim (cases_Bool (is_chosen chosen j)) [
          | inl inside ↦
              let p = tops_chosen k.marker.tams.previous tams.previous k.marker.bitmaps.previous bm.previous ev.previous
              core.layers.marker.previous.each_region j inside in
              let q =
              tops_chosen k.marker.tams.next tams.next k.marker.bitmaps.next bm.next ev.next core.layers.marker.next.each_region j inside in
              omega (arith, p, q)
          | inr out ↦
              omega (arith, top_left ev.previous j out, top_left ev.next j out, core.layers.marker.newer run j)
        ]

    -- an object outside of the set has as many words as before
    same_long : (x y : Stored) → IsSameBut x y → tile_size (Object y) ≡ tile_size (Object x)
    same_long x y s =
        let pointers = s.pointers in
        let weaks = s.weaks in
        let held = s.held in
        let values = ap (λ (vs : List ℕ). length vs) s.values in
        omega (arith, pointers, weaks, held, values)

    words_stay : (a : ℕ) (x : Stored) → set_in k.table.words_per_region chosen a ≡ false → object_at k.table a ≡ Some x
        → object_words t a ≡ object_words k.table a
    words_stay a x outside o =
        let (y, is, same) = ev.regions.objects a x outside o in
        words_are t a y is ∙ same_long x y same ∙ sym (words_are k.table a x o)

    -- the held object stays where it is, with as many pointers
    held_pointers : k.marker.running ≡ true → (a : ℕ) → k.marker.grey.held ≡ Some a
        → length (pointers_at t a) ≡ length (pointers_at k.table a)
    held_pointers run a held =
        let marked = (grey_is k.marker.bitmaps.next k.marker.grey a ((core.layers.marker.finger run).held a held)).0 in
        let o = core.layers.marker.next.object a marked in
        elim (cases_Bool (set_in k.table.words_per_region chosen a)) [
          | inl inside ↦ absurd (let none = none_marked run a inside in cc)
          | inr outside ↦
              let (y, is, same) = ev.regions.objects a o.0 outside o.1 in
              pointers_are t a y is ∙ same.pointers ∙ sym (pointers_are k.table a o.0 o.1)
        ]

    -- what is counted of marks from which those of the set go
    counts_after : (marks marks' : List Bool) (counts counts' : List ℕ) → CountsWords k.table marks counts
        → ((a : ℕ) → is_marked marks a ≡ true → (x : Stored) × (object_at k.table a ≡ Some x))
        → ((a : ℕ) → is_marked marks' a ≡ (if set_in k.table.words_per_region chosen a then false else is_marked marks a))
        → ((j : ℕ) → slice_index counts' j ≡ (if is_chosen chosen j then 0 else slice_index counts j))
        → length counts' ≡ length counts → CountsWords t marks' counts'
    counts_after marks marks' counts counts' c object each now len = record {
      each_region = len ∙ c.each_region ∙ sym ev.regions.count;
      each =
          λ j lt. count_at j (omega (arith, lt, ev.regions.count)) ∙ ap (λ (v : ℕ). marked_words t marks' (j * v) v) (sym ev.regions.size);
    }
      where
        here : (j a : ℕ) → j * k.table.words_per_region ≤ a → a < j * k.table.words_per_region + k.table.words_per_region
            → set_in k.table.words_per_region chosen a ≡ is_chosen chosen j
        here j a low high = ap (is_chosen chosen) (ranges.div_is a k.table.words_per_region j low high)

        count_at : (j : ℕ) → j < length k.table.regions
            → slice_index counts' j ≡ marked_words t marks' (j * k.table.words_per_region) k.table.words_per_region
        count_at j known = elim (cases_Bool (is_chosen chosen j)) [
          | inl inside ↦
              now j ∙ ap (λ (b : Bool). if b then 0 else slice_index counts j) inside
              ∙ sym (none_words t marks' k.table.words_per_region (j * k.table.words_per_region)
              (λ a low high. each a ∙ ap (λ (b : Bool). if b then false else is_marked marks a) (here j a low high ∙ inside)))
          | inr out ↦
              now j ∙ ap (λ (b : Bool). if b then 0 else slice_index counts j) out ∙ c.each j known
              ∙ sym (marked_words_same k.table t marks marks' k.table.words_per_region (j * k.table.words_per_region)
              (λ a low high. each a ∙ ap (λ (b : Bool). if b then false else is_marked marks a) (here j a low high ∙ out))
              (λ a low high marked. let o = object a marked in words_stay a o.0 (here j a low high ∙ out) o.1))
        ]

    grey_same : k.marker.running ≡ true → (a : ℕ) → is_grey bm.next k.marker.grey a ≡ is_grey k.marker.bitmaps.next k.marker.grey a
    grey_same run a = ap (λ (b : Bool). b && not (is_marked k.marker.grey.scanned a)) (marks_same run a)

    marker_stands : MarkerStands t marker
    marker_stands = record {
      previous = ev.previous_stands;
      next = ev.next_stands;
      scanned = core.layers.marker.scanned ∙ sym ev.next.each_word;
      finger = λ run.
          let fingers = core.layers.marker.finger run in
          record {
            each = λ a lt. elim (fingers.each a lt) [
              | inl held ↦ inl held
              | inr (inl on) ↦ inr (inl on)
              | inr (inr none) ↦ inr (inr (grey_same run a ∙ none))
            ];
            held = λ a held. grey_same run a ∙ fingers.held a held;
            stacked = λ a on. grey_same run a ∙ fingers.stacked a on;
            apart = fingers.apart;
            beside = fingers.beside;
            lowest = λ by_address whole a b held less. grey_same run b ∙ fingers.lowest by_address whole a b held less;
            none = λ a held. grey_same run a ∙ fingers.none a held;
          };
      newer = newer;
      follows = λ run. follows_of after core.footing.graph core.footing.snapshot (paused_shows core.footing.graph core.rests.shows)
          (paused_keeps core.footing.snapshot core.rests.keeps) run;
      idle = core.layers.marker.idle;
      none_wait = core.layers.marker.none_wait;
      scanned_marked = λ run a e. marks_same run a ∙ core.layers.marker.scanned_marked run a e;
      counted = core.layers.marker.counted;
      part = λ run a held. omega (arith, core.layers.marker.part run a held, held_pointers run a held);
      live = counts_after k.marker.bitmaps.previous bm.previous k.marker.live.previous live.previous core.layers.marker.live
          core.layers.marker.previous.object ev.previous.each_mark forgets.previous forgets.each_previous;
      live_next = counts_after k.marker.bitmaps.next bm.next k.marker.live.next live.next core.layers.marker.live_next
          core.layers.marker.next.object ev.next.each_mark forgets.next forgets.each_next;
    }

    module _ (closed_all : k.buffers ≡ placement.closed k.buffers.words (length k.buffers.open_buffers)) where
      layers_after : LayersFit k.config t k.buffers marker
      layers_after = record {
        region_size = ev.regions.size ∙ core.layers.region_size;
        region_count = ev.regions.count ∙ core.layers.region_count;
        buffer_size = core.layers.buffer_size;
        open_buffers = core.layers.open_buffers;
        logs = core.layers.logs;
        waits = core.layers.waits;
        buffers =
            subst (λ (b : Buffers). BuffersStand t b) (sym closed_all) (closed_stand t k.buffers.words (length k.buffers.open_buffers));
        unmoved = ev.unmoved;
        marker = marker_stands;
        above_previous = retired_above t k.buffers (length k.buffers.open_buffers) (slice_index tams.previous)
            (ap (λ (b : Buffers). b.open_buffers) closed_all) ev.previous_stands.top;
        above_next = retired_above t k.buffers (length k.buffers.open_buffers) (slice_index tams.next)
            (ap (λ (b : Buffers). b.open_buffers) closed_all) ev.next_stands.top;
        room = core.layers.room;
        halves = ev.halves;
        wide = wide_after chosen k.table t ev.regions core.layers.wide;
      }

      pub paused_kept : length roots ≡ length k.roots → IsCore after
      unfolding kept_of
      paused_kept places = aged_stays k core t k.buffers marker cs ss roots ages places aged.count layers_after (record {
        whole_cards = sym core.layers.region_size ∙ sym ev.regions.size ∙ ev.fit.whole_cards;
        each_region = ev.fit.each_region ∙ ev.regions.count ∙ core.layers.region_count;
        each_card = ev.each_card;
        each_mutator = ap (λ (ls : List (List ℕ)). length ls) ev.logs ∙ core.cards.each_mutator;
      }) ev.remembers (slots_now after core.footing.graph (paused_exactly core.footing.graph core.rests.shows)) paused_shows paused_keeps

      -- exactly the chosen regions are reclaimed
      reclaimed : (j : ℕ) → IsReclaimed k.table t j ↔ (is_chosen chosen j ≡ true)
      reclaimed j = (
        λ p. elim (cases_Bool (is_chosen chosen j)) [
          | inl inside ↦ inside
          | inr out ↦ absurd (p.used (sym (ev.regions.kinds_same j out p.used) ∙ p.free))
        ],
        λ inside. record {
          used = λ free. (let ordinary =
              chosen_ordinary k.table k.marker.tams k.marker.bitmaps.previous k.marker.running budget chosen may j inside in
              cc);
          free = ev.regions.chosen j inside;
        },
      )

      pub evacuates_from : (c : CoreState) → k ≡ c → (m : ℕ) → m ≡ length chosen → EvacuatesSet which budget m w c c after
      unfolding kept_of
      evacuates_from c e m count = subst (λ (d : CoreState). EvacuatesSet which budget m w d d after) e (record {
        chosen = chosen;
        choice = choice;
        regions = count;
        within = (let most = ev.within in
            let le = chosen_within k.table k.marker.tams k.marker.bitmaps.previous k.marker.running budget chosen may in
            omega (arith, most, le));
        names = λ g s. copied_names g (heap_of k) s.shows (set_in k.table.words_per_region chosen) (all_closed k core none) w ev.words_are;
        reclaimed = reclaimed;
        same = refl;
        marker = refl;
        counts = forgets;
        ages = aged;
        evacuated = ev;
      })

-- what was made ready shows what it showed
still_shows : (c k : CoreState) → IsReady c k → (g : Graph) → ShowsGraph g c → ShowsGraph g k
unfolding kept_of
still_shows c k ready g s = record {
  room = s.room ∙ sym (ap object_limit (ready_config c k ready));
  places = s.places ∙ sym (ap root_counts_of (ready_config c k ready));
  next = s.next ∙ sym (ready_next c k ready);
  shows = rw (ready_table c k ready, ready_marker c k ready, ready_roots c k ready) s.shows;
}

-- the set of what was made ready is that of what was
set_was : (which : Choice) (c k : CoreState) (budget : ℕ) (chosen : List LiveRow) → IsReady c k
    → IsSetOf which k.table k.marker.tams k.marker.bitmaps.previous k.marker.running k.sets k.ages budget chosen
    → IsSetOf which c.table c.marker.tams c.marker.bitmaps.previous c.marker.running k.sets c.ages budget chosen
set_was which c k budget chosen ready h =
    subst (λ (m : Marker). IsSetOf which c.table m.tams m.bitmaps.previous m.running k.sets c.ages budget chosen) (ready_marker c k ready)
    (subst (λ (t : Table). IsSetOf which t k.marker.tams k.marker.bitmaps.previous k.marker.running k.sets c.ages budget chosen)
    (ready_table c k ready)
    (subst (λ (a : Ages). IsSetOf which k.table k.marker.tams k.marker.bitmaps.previous k.marker.running k.sets a budget chosen)
    (ready_ages c k ready) h))

-- what is moved after all was made ready
pub moved_ready : (which : Choice) (c k c' : CoreState) (budget n w : ℕ) → IsReady c k → EvacuatesSet which budget n w k k c'
    → HasMoved which budget n w c c'
unfolding kept_of
moved_ready which c k c' budget n w ready p = record {
  ready = k;
  is_ready = ready;
  evacuates = record {
    chosen = p.chosen;
    choice = set_was which c k budget p.chosen ready p.choice;
    regions = p.regions;
    within = p.within;
    names = λ g s. rw (ready_table c k ready, ready_marker c k ready, ready_roots c k ready) at (p.names g (still_shows c k ready g s));
    reclaimed = λ j. rw (ready_table c k ready) at (p.reclaimed j);
    same = p.same;
    marker = p.marker;
    counts = p.counts;
    ages = p.ages;
    evacuated =
        subst (λ (g : Config). HasEvacuated p.chosen (is_third g.format) (card_words g) w (layers_of k) (layers_of c'))
        (ready_config c k ready) p.evacuated;
  };
}
