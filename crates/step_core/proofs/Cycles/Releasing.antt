-- A dead region, or a dead run, is released.
use Rattle.std.proofs.Common.{◌≡◌, ◌≢◌, ◌+◌, ◌-◌, ◌*◌, ◌/◌, ◌<◌, ◌≤◌, ◌⊎◌, ◌∙◌, ℕ, Bool, true, false, cond, List, Option, Some, None}
use Rattle.std.proofs.Common.{length, refl, sym, ap, subst, arith, inl, inr, ◌↔◌, if◌then◌else◌, slice_get, slice_index, nat_lt}
use Rattle.std.proofs.lemmas.Bool.{cases_eq}
use Rattle.heap_model.specs.Graph.{Graph}
use Rattle.heap_model.specs.Heap.{Stored, fields}
use Rattle.heap_model.proofs.Changed.{same_shows}
use Rattle.heap_model.proofs.Waiting.{will_same}
use Rattle.step_core.proofs.Cores.Slots.{shows_now, all_closed, slots_now}
use Rattle.heap_words.specs.Configs.{card_words}
use Rattle.regions.specs.Tiles.{Filler, Object}
use Rattle.regions.specs.Table.{Table, Free, First, nth_region, kind_of, object_at, object_words, tile_in, run_length, released, top_of}
use Rattle.regions.specs.Shaped.{IsShaped}
use Rattle.regions.specs.declared.row.Kind.{Kind}
use Rattle.regions.specs.declared.row.Kind.TheVariants as kinds
use Rattle.alloc_buffers.specs.Placement.{BuffersStand, AreAbove, IsAbove}
use Rattle.alloc_buffers.proofs.Above.{stand_released}
use Rattle.regions.proofs.Tiles.Spliced.{IsOutside}
use Rattle.regions.proofs.LongRuns.Blocks.{Frees, kind_is, later_rest, first_not_rest, reached, alone}
use Rattle.regions.proofs.LongRuns.Blocks.{release_frees, object_near, object_gone, top_near, tile_near}
use Rattle.regions.proofs.LongRuns.Blocks.{block_cases, rest_void, first_void, first_no_filler, void_object}
use Rattle.bit_sets.proofs.BitRanges.{between_yes, between_no_below, between_no_above}
use Rattle.evacuation.proofs.WholePause.ChosenReleased.{mark_gone, mark_left, top_gone, top_left}
use Rattle.mark_bitmap.specs.Marks.{is_marked}
use Rattle.mark_bitmap.specs.Tops.{is_below, is_in_region}
use Rattle.mark_bitmap.specs.Live.{live_bound_of}
use Rattle.mark_bitmap.proofs.Ranges as ranges
use Rattle.mark_bitmap.proofs.LiveWords.{dead_of_zero, dead_kept, same_bound}
use Rattle.marker.specs.Stands.{MarkerStands}
use Rattle.marker.specs.declared.marker.Marker.{Marker}
use Rattle.marker.proofs.Forgotten.{table_stands}
use Rattle.cards.specs.Cards.{is_dirty}
use Rattle.bit_sets.specs.Bits.{has, is_between}
use Rattle.region_choice.specs.Ages.{Ages, AgesAfter, stamp_of}
use Rattle.remembered_sets.specs.Sets.{Sets, may_lead, set_of, emptied}
use Rattle.remembered_sets.proofs.Laws.{leads_alike}
use Rattle.remembered_sets.proofs.Covered.{emptied_twice}
use Rattle.refinement.specs.Remembering.{Remembers, field_card, field_word}
use Rattle.refinement.proofs.Fields.{region_of_card}
use Rattle.refinement.proofs.Holders.{kept_object, word_holder}
use Rattle.regions.proofs.Tiles.Holders.{holder_start}
use Rattle.regions.proofs.Tiles.Laws.{object_tile}
use Rattle.evacuation.proofs.Lists.{get_below}
use Rattle.step_core.proofs.Mutating.Small.{IsHalf, IsOver, sizes_left, words_by}
use Rattle.step_core.specs.Stands.{CoreState, kept_of, heap_of, RemembersFields, ShowsGraph, KeepsFrom, IsCore, IsClearing}
use Rattle.step_core.proofs.Cores.Resting.{aged_stays}
use Rattle.step_core.specs.Cycle.{IsDeadRegion, IsDeadRun, IsDead, IsAsNew, IsAsBefore}
use Rattle.step_core.specs.Cleaning.{IsDeadHead, HasForgotten, HasEmptied, HasReleased}

-- what is kept, by what is told of an address
abbrev pub keeps : Bool → Bool → Option Stored → Option Stored
keeps below marked x = cond below (cond marked x None) x

keeps_none : (below marked : Bool) → keeps below marked None ≡ None
keeps_none true true = refl
keeps_none true false = refl
keeps_none false marked = refl

pub kept_by_parts : (c : CoreState) (a : ℕ)
    → kept_of c a
    ≡ keeps (is_below c.table.words_per_region c.marker.tams.previous a) (is_marked c.marker.bitmaps.previous a) (object_at c.table a)
unfolding kept_of
kept_by_parts c a = refl

object_there : (t : Table) (a : ℕ) (x : Stored) → object_at t a ≡ Some x → tile_in t a ≡ Some (Object x)
unfolding object_at
object_there t a x e = object_tile (tile_in t a) x e

kept_void : (c : CoreState) (a : ℕ) → object_at c.table a ≡ None → kept_of c a ≡ None
kept_void c a e = kept_by_parts c a
    ∙ ap (keeps (is_below c.table.words_per_region c.marker.tams.previous a) (is_marked c.marker.bitmaps.previous a)) e
    ∙ keeps_none (is_below c.table.words_per_region c.marker.tams.previous a) (is_marked c.marker.bitmaps.previous a)

below_near : (w w' : ℕ) (tops tops' : List ℕ) (a : ℕ) → w' ≡ w → slice_index tops' (a / w) ≡ slice_index tops (a / w)
    → is_below w' tops' a ≡ is_below w tops a
unfolding is_below
below_near w w' tops tops' a e h = ap (λ (n : ℕ). nat_lt a (slice_index tops' (a / n))) e ∙ ap (λ (top : ℕ). nat_lt a top) h

-- the region n of the core k is dead, and with it those that belong to it, m in all: their marks and tops are forgotten, their
-- sets are emptied, and they are released
module _ (k : CoreState) (core : IsCore k) (shaped : IsShaped k.table) (n m : ℕ) (known : n < length k.table.regions)
    (dead : IsDeadHead k n) (together : m ≡ run_length k.table n)
    (mk : Marker) (idle : mk.running ≡ false) (st : MarkerStands k.table mk) (f : HasForgotten k.table.words_per_region n m k.marker mk)
    (ss : Sets) (empty : HasEmptied n m k.sets ss) (ages : Ages) (aged : AgesAfter (is_between n (n + m)) k.ages ages) where
  abbrev after : CoreState
  after = record k { table = released k.table n; marker = mk; sets = ss; ages = ages }

  abbrev size : ℕ
  size = k.table.words_per_region

  -- the regions that are gone, and the others
  inside : (j : ℕ) → n ≤ j → j < n + m → is_between n (n + m) j ≡ true
  inside j low high = between_yes n (n + m) j low high

  outside : (j : ℕ) → IsOutside n m j → is_between n (n + m) j ≡ false
  outside j (inl less) = between_no_below n (n + m) j less
  outside j (inr past) = between_no_above n (n + m) j past

  kind_now : (kind_of k.table n ≡ kinds.Ordinary) ⊎ (kind_of k.table n ≡ kinds.First)
  kind_now = elim dead [ inl d ↦ inl d.ordinary | inr d ↦ inr d.0 ]

  frees : Frees k.table (released k.table n) n m
  frees = subst (λ (j : ℕ). Frees k.table (released k.table n) n j) (sym together) (release_frees k.table n shaped known kind_now)

  -- the regions behind the first one are a run's later ones
  behind : (q : ℕ) → n < q → q < n + m → kind_of k.table q ≡ kinds.Rest
  behind q low high = later_rest k.table n (q - n) q (omega arith) (omega arith) (omega (arith, together))

  by_itself : kind_of k.table n ≡ kinds.Ordinary → m ≡ 1
  by_itself o = together ∙ alone k.table n shaped (λ e. cc) (λ e. cc)

  -- nothing of them was kept
  none_kept : (a : ℕ) → n ≤ a / size → a / size < n + m → kept_of k a ≡ None
  unfolding kept_of
  none_kept a low high = elim dead [
    | inl d ↦
        let one = by_itself d.ordinary in
        let same : a / size ≡ n = omega arith in
        let inside : is_in_region size n a ≡ true =
        ap (λ (j : ℕ). is_in_region size j a) (sym same) ∙ ranges.in_own_region size a shaped.positive in
        dead_kept k.table k.marker.tams k.marker.bitmaps.previous n a shaped d.ordinary
        (dead_of_zero k.table k.marker.tams.previous k.marker.bitmaps.previous n core.layers.marker.previous known d.live_bound) inside
    | inr d ↦ elim (cases_eq (a / size) n) [
      | inl same ↦ elim (cases_eq a (a / size * size)) [
        | inl bottom ↦ ap (kept_of k) (bottom ∙ ap (λ (j : ℕ). j * size) same) ∙ d.1
        | inr off ↦ kept_void k a (void_object k.table a (first_void k.table a shaped.positive (ap (kind_of k.table) same ∙ d.0) off))
      ]
      | inr ne ↦ kept_void k a (void_object k.table a (rest_void k.table a (behind (a / size) (omega arith) high)))
    ]
  ]

  kept_same : (a : ℕ) → kept_of after a ≡ kept_of k a
  kept_same a = elim (block_cases n m (a / size)) [
    | inl out ↦
        kept_by_parts after a
        ∙ ap (λ (b : Bool). keeps b (is_marked mk.bitmaps.previous a) (object_at (released k.table n) a))
        (below_near size (released k.table n).words_per_region k.marker.tams.previous mk.tams.previous a
        frees.size (top_left f.previous (a / size) (outside (a / size) out)))
        ∙ ap (λ (b : Bool). keeps (is_below size k.marker.tams.previous a) b (object_at (released k.table n) a))
        (mark_left f.previous a (outside (a / size) out))
        ∙ ap (keeps (is_below size k.marker.tams.previous a) (is_marked k.marker.bitmaps.previous a))
        (object_near k.table (released k.table n) a frees.size (frees.others (a / size) out))
        ∙ sym (kept_by_parts k a)
    | inr q ↦
        let gone : object_at (released k.table n) a ≡ None = object_gone (released k.table n) a
        (ap (λ (w : ℕ). nth_region (released k.table n) (a / w)) frees.size ∙ frees.free (a / size) q.0 q.1) in
        kept_void after a gone ∙ sym (none_kept a q.0 q.1)
  ]

  none_there : (a : ℕ) → n ≤ a / size → a / size < n + m → kept_of after a ≡ None
  none_there a low high = kept_same a ∙ none_kept a low high

  pub release_shows : (g : Graph) → ShowsGraph g k → ShowsGraph g after
  release_shows g s = record {
    room = s.room;
    places = s.places;
    next = s.next;
    shows = will_same g (heap_of k) (heap_of after) s.shows (record { kept = kept_same; roots = refl });
  }

  pub release_keeps : (s : Graph) → KeepsFrom s k → KeepsFrom s after
  release_keeps s g = record { earlier = g.earlier; marking = λ run. absurd cc }

  bottom_same : (j : ℕ) → j * (released k.table n).words_per_region ≡ j * size
  bottom_same j = ap (λ (w : ℕ). j * w) frees.size

  low_previous : (j : ℕ) → n ≤ j → j < n + m → slice_index mk.tams.previous j ≡ j * size
  low_previous j low high =
      top_gone f.previous j (omega (arith, high, frees.known, core.layers.marker.previous.each_region)) (inside j low high)

  low_next : (j : ℕ) → n ≤ j → j < n + m → slice_index mk.tams.next j ≡ j * size
  low_next j low high = top_gone f.next j (omega (arith, high, frees.known, core.layers.marker.next.each_region)) (inside j low high)

  near : (j a : ℕ) → IsOutside n m j → is_in_region size j a ≡ true → is_between n (n + m) (a / size) ≡ false
  near j a out i = ap (is_between n (n + m)) (ranges.nth_region size j a i) ∙ outside j out

  -- the cards of other regions have entered sets as before
  others_entered : (card : ℕ) → IsOutside n m (card / k.sets.cards_per_region) → has ss.entered card ≡ has k.sets.entered card
  others_entered card out = empty.entered card
      ∙ ap (λ (b : Bool). if b then false else has k.sets.entered card) (outside (card / k.sets.cards_per_region) out)

  -- a top is no higher than the region's words, at which it is in a region that is gone
  top_after : (top j : ℕ) → (IsOutside n m j → top ≤ top_of k.table j) → (n ≤ j → j < n + m → top ≡ j * size)
      → top ≤ top_of (released k.table n) j
  top_after top j was low = elim (block_cases n m j) [
    | inl out ↦
        let le = was out in
        let same = top_near k.table (released k.table n) j frees.size (frees.others j out) in
        omega (arith, le, same)
    | inr q ↦ let e = low q.0 q.1 in let b = bottom_same j in omega (arith, e, b)
  ]

  -- the objects of other regions are where they were, those with marks among them
  object_after : (a : ℕ) → (is_between n (n + m) (a / size) ≡ true → ⊥) → object_at (released k.table n) a ≡ object_at k.table a
  object_after a stays = elim (block_cases n m (a / size)) [
    | inl out ↦ object_near k.table (released k.table n) a frees.size (frees.others (a / size) out)
    | inr q ↦ absurd (stays (inside (a / size) q.0 q.1))
  ]

  previous_after : (a : ℕ) → is_marked mk.bitmaps.previous a ≡ true → object_at (released k.table n) a ≡ object_at k.table a
  previous_after a marked = object_after a (λ gone. let no = mark_gone f.previous a gone in cc)

  next_after : (a : ℕ) → is_marked mk.bitmaps.next a ≡ true → object_at (released k.table n) a ≡ object_at k.table a
  next_after a marked = object_after a (λ gone. let no = mark_gone f.next a gone in cc)

  pub release_stands : MarkerStands (released k.table n) mk
  release_stands = table_stands k.table (released k.table n) mk st frees.count frees.size
      (λ j lt. top_after (slice_index mk.tams.previous j) j (λ out. st.previous.top j lt) (low_previous j))
      (λ j lt. top_after (slice_index mk.tams.next j) j (λ out. st.next.top j lt) (low_next j))
      (λ a x marked o. (x, previous_after a marked ∙ o)) (λ a x marked o. (x, next_after a marked ∙ o))
      (λ a marked. words_by k.table (released k.table n) a (previous_after a marked))
      (λ a marked. words_by k.table (released k.table n) a (next_after a marked)) (λ on. absurd (let e = idle in cc))
      (λ on. absurd (let e = idle in cc))

  -- what lay above the tops at mark start still does
  above_after : (limit limit' : ℕ → ℕ) → ((j : ℕ) → n ≤ j → j < n + m → limit' j ≡ j * size)
      → ((j : ℕ) → IsOutside n m j → limit' j ≡ limit j) → AreAbove k.table k.buffers limit → AreAbove (released k.table n) k.buffers limit'
  above_after limit limit' low same above = record {
    tops = λ j lt. top_after (limit' j) j (λ out. let was = above.tops j (let c = frees.count in omega arith) in
        let e = same j out in
        omega (arith, was, e)) (low j);
    buffers = λ i x e. subst (λ (w : ℕ). IsAbove w limit' x.next) (sym frees.size) (λ j jl jh. elim (block_cases n m j) [
      | inl out ↦ let was = above.buffers i x e j jl jh in let s = same j out in omega (arith, was, s)
      | inr q ↦ let s = low j q.0 q.1 in omega (arith, s)
    ]);
  }

  kind_other : (j : ℕ) → IsOutside n m j → kind_of (released k.table n) j ≡ kind_of k.table j
  kind_other j out =
      kind_is (released k.table n) j (nth_region k.table j) (frees.others j out) ∙ sym (kind_is k.table j (nth_region k.table j) refl)

  -- buffers stand: none is in a run
  buffers_after : BuffersStand (released k.table n) k.buffers
  buffers_after = elim dead [
    | inl d ↦
        let gone = dead_of_zero k.table k.marker.tams.previous k.marker.bitmaps.previous n core.layers.marker.previous known d.live_bound in
        stand_released k.table k.buffers (slice_index k.marker.tams.previous) n shaped core.layers.buffers
        core.layers.above_previous known d.ordinary gone.top d.other
    | inr d ↦ record {
      known = λ j e. let lt = core.layers.buffers.known j e in let c = frees.count in omega (arith, lt, c);
      ordinary = λ j e.
          let o = core.layers.buffers.ordinary j e in
          elim (block_cases n m j) [ inl out ↦ kind_other j out ∙ o | inr q ↦ absurd (not_ordinary d.0 j q.0 q.1 o) ];
      fillers = λ i x e.
          let w = core.layers.buffers.fillers i x e in
          elim (block_cases n m (x.next / size)) [
            | inl out ↦ record {
              positive = w.positive;
              filler = tile_near k.table (released k.table n) x.next frees.size (frees.others (x.next / size) out) ∙ w.filler;
            }
            | inr q ↦ absurd (no_filler d.0 x.next x.rest q.0 q.1 w.filler)
          ];
      apart = core.layers.buffers.apart;
    }
  ]
    where
      not_ordinary : kind_of k.table n ≡ kinds.First → (j : ℕ) → n ≤ j → j < n + m → kind_of k.table j ≡ kinds.Ordinary → ⊥
      not_ordinary first j low high o = elim (cases_eq j n) [
        | inl same ↦ (let here = ap (kind_of k.table) same in cc)
        | inr ne ↦ (let rest = behind j (omega arith) high in cc)
      ]

      no_filler : kind_of k.table n ≡ kinds.First → (a rest : ℕ) → n ≤ a / size → a / size < n + m
          → tile_in k.table a ≡ Some (Filler rest) → ⊥
      no_filler first a rest low high e = elim (cases_eq (a / size) n) [
        | inl same ↦ first_no_filler k.table a rest (ap (kind_of k.table) same ∙ first) e
        | inr ne ↦ (let void = rest_void k.table a (behind (a / size) (omega arith) high) in cc)
      ]

  -- a field of a kept object lies in a region that stays
  field_stays : (at index : ℕ) (x : Stored) (v : Option ℕ) → kept_of after at ≡ Some x → slice_get (fields x) index ≡ Some v
      → IsOutside n m (field_word at index / size)
  unfolding kept_of
  field_stays at index x v kept_is field_is =
      let here : kept_of k at ≡ Some x = sym (kept_same at) ∙ kept_is in
      let o = kept_object k.table k.marker.tams k.marker.bitmaps.previous at x here in
      let holder = word_holder k.table at index x shaped o (get_below (fields x) index v field_is) in
      let s = holder_start k.table at (field_word at index) shaped holder in
      let below = s.run.below in
      elim (block_cases n m (field_word at index / size)) [
        | inl out ↦ out
        | inr q ↦ absurd (elim (block_cases n m (at / size)) [
          | inl away ↦ elim away [
            | inl lt ↦ not_behind kind_now (s.run.rest n lt q.0)
            | inr past ↦ absurd (omega (arith, past, below, q.1))
          ]
          | inr inside ↦ (let none = none_there at inside.0 inside.1 in cc)
        ])
      ]
    where
      not_behind : (kind_of k.table n ≡ kinds.Ordinary) ⊎ (kind_of k.table n ≡ kinds.First) → kind_of k.table n ≡ kinds.Rest → ⊥
      not_behind (inl o) r = cc
      not_behind (inr f) r = cc

  -- the card of such a field has entered a set as before
  field_entered : (at index : ℕ) (x : Stored) (v : Option ℕ) → kept_of after at ≡ Some x → slice_get (fields x) index ≡ Some v
      → has ss.entered (field_card (card_words k.config) at index) ≡ has k.sets.entered (field_card (card_words k.config) at index)
  field_entered at index x v kept_is field_is =
      let whole : size ≡ k.sets.cards_per_region * card_words k.config = core.layers.region_size ∙ core.cards.whole_cards in
      let own = region_of_card size (card_words k.config) k.sets.cards_per_region (field_word at index) shaped.positive whole in
      others_entered (field_card (card_words k.config) at index)
      (subst (λ (q : ℕ). IsOutside n m q) (sym own) (field_stays at index x v kept_is field_is))

  remembers_after : k.clearing ≡ None → RemembersFields after
  remembers_after none =
      let field = all_closed k core none in
      subst (λ (w : ℕ). Remembers w (kept_of after) (card_words k.config) (is_dirty k.cards) (may_lead ss)) (sym frees.size) (record {
        each = λ at index target x.
            let old = core.remembers.each at index target
            (record { object = x.object; kept_is = sym (kept_same at) ∙ x.kept_is; field_is = x.field_is; leaves = x.leaves }) in
            let there = field.field at index target x.object (sym (kept_same at) ∙ x.kept_is) x.field_is in
            elim old [
              | inl dirty ↦ inl dirty
              | inr covered ↦ elim (block_cases n m (target / size)) [
                | inl out ↦
                    let card : ℕ = field_card (card_words k.config) at index in
                    inr (leads_alike k.sets ss (target / size) card empty.cards (empty.others (target / size) (outside (target / size) out))
                    (field_entered at index x.object (Some target) x.kept_is x.field_is) ∙ covered)
                | inr q ↦ absurd (let gone = none_kept target q.0 q.1 in let kept = there.1 in cc)
              ]
            ];
      })

  -- a region that is in use afterwards is another one, and was of its kind with the same objects
  still_used : (j : ℕ) → kind_of (released k.table n) j ≢ kinds.Free → IsOutside n m j
  still_used j used = elim (block_cases n m j) [
    | inl out ↦ out
    | inr q ↦ absurd (used (kind_is (released k.table n) j Free (frees.free j q.0 q.1)))
  ]

  left : (x : Kind) → x ≢ kinds.Free → (j a : ℕ) → kind_of (released k.table n) j ≡ x → is_in_region size j a ≡ true
      → (kind_of k.table j ≡ x) × (object_words (released k.table n) a ≡ object_words k.table a)
  left x used j a o inside =
      let out = still_used j (λ free. used (sym o ∙ free)) in
      let at : IsOutside n m (a / size) = subst (λ (q : ℕ). IsOutside n m q) (sym (ranges.nth_region size j a inside)) out in (
        sym (kind_other j out) ∙ o,
        words_by k.table (released k.table n) a (object_near k.table (released k.table n) a frees.size (frees.others (a / size) at)),
      )

  release_slots : k.clearing ≡ None → IsClearing after
  release_slots none = slots_now after core.footing.graph
      (same_shows core.footing.graph (heap_of k) (heap_of after) (shows_now k core none core.footing.graph core.rests.shows)
      (record { kept = kept_same; roots = refl }))

  pub release_kept : k.clearing ≡ None → IsCore after
  release_kept none = aged_stays k core (released k.table n) k.buffers mk k.cards ss k.roots ages refl aged.count (record {
    region_size = frees.size ∙ core.layers.region_size;
    region_count = frees.count ∙ core.layers.region_count;
    buffer_size = core.layers.buffer_size;
    open_buffers = core.layers.open_buffers;
    logs = ap (λ (x : Marker). length x.logs) f.same ∙ core.layers.logs;
    waits = ap (λ (x : Marker). x.waiting.room) f.same ∙ core.layers.waits;
    buffers = buffers_after;
    unmoved = frees.unmoved core.layers.unmoved;
    marker = release_stands;
    above_previous = above_after (slice_index k.marker.tams.previous) (slice_index mk.tams.previous) low_previous
        (λ j out. top_left f.previous j (outside j out)) core.layers.above_previous;
    above_next = above_after (slice_index k.marker.tams.next) (slice_index mk.tams.next) low_next
        (λ j out. top_left f.next j (outside j out)) core.layers.above_next;
    room = λ i. rw (ap (λ (x : Marker). x.logs) f.same) (core.layers.room i);
    halves = sizes_left kinds.Ordinary IsHalf k.table (released k.table n) shaped.positive frees.size (left kinds.Ordinary (λ e. cc))
        core.layers.halves;
    wide = sizes_left kinds.First IsOver k.table (released k.table n) shaped.positive frees.size (left kinds.First (λ e. cc))
        core.layers.wide;
  }) (record {
    whole_cards = core.cards.whole_cards ∙ ap (λ (c : ℕ). c * card_words k.config) (sym empty.cards);
    each_region = empty.count ∙ core.cards.each_region;
    each_card = core.cards.each_card ∙ ap (λ (c : ℕ). c * k.sets.cards_per_region) (sym empty.count)
        ∙ ap (λ (c : ℕ). length ss.sets * c) (sym empty.cards);
    each_mutator = core.cards.each_mutator;
  }) (remembers_after none) (release_slots none) release_shows release_keeps

  -- the live bounds of the other regions
  bound_other : (j : ℕ) → IsOutside n m j → live_bound_of (released k.table n) mk.tams.previous mk.bitmaps.previous j
      ≡ live_bound_of k.table k.marker.tams.previous k.marker.bitmaps.previous j
  bound_other j out =
      same_bound k.table (released k.table n) k.marker.tams.previous mk.tams.previous k.marker.bitmaps.previous mk.bitmaps.previous j shaped
      frees.size (frees.others j out) (top_left f.previous j (outside j out)) (λ a i. mark_left f.previous a (near j a out i))
      core.layers.marker.previous

  region_other : (j : ℕ) → IsOutside n m j → IsDeadRegion after j ↔ IsDeadRegion k j
  region_other j out = (
    λ d. record { ordinary = sym (kind_other j out) ∙ d.ordinary; other = d.other; live_bound = sym (bound_other j out) ∙ d.live_bound },
    λ d. record { ordinary = kind_other j out ∙ d.ordinary; other = d.other; live_bound = bound_other j out ∙ d.live_bound },
  )

  -- a dead run stays one
  dead_run : (c d : CoreState) (j : ℕ) (r : IsDeadRun c j) → d.table.words_per_region ≡ c.table.words_per_region
      → nth_region d.table r.first ≡ nth_region c.table r.first
      → kept_of d (r.first * d.table.words_per_region) ≡ kept_of c (r.first * c.table.words_per_region) → IsDeadRun d j
  dead_run c d j r words same kept = record {
    first = r.first;
    object = r.object;
    begins = same ∙ r.begins;
    low = r.low;
    reaches = (let e = ap (λ (w : ℕ). (j - r.first) * w) words in let far = r.reaches in omega (arith, e, far));
    dead = kept ∙ r.dead;
  }

  run_other : (j : ℕ) → IsOutside n m j → IsDeadRun after j ↔ IsDeadRun k j
  run_other j out = (
    λ d. elim (block_cases n m d.first) [
      | inl away ↦ dead_run after k j d (sym frees.size) (sym (frees.others d.first away)) (sym (kept_there d.first))
      | inr q ↦ absurd (let gone = frees.free d.first q.0 q.1 in let begins = d.begins in cc)
    ],
    λ d. elim (block_cases n m d.first) [
      | inl away ↦ dead_run k after j d frees.size (frees.others d.first away) (kept_there d.first)
      | inr q ↦ absurd (elim (cases_eq d.first n) [
        | inl same ↦
            let begins : nth_region k.table n ≡ First d.object = ap (nth_region k.table) (sym same) ∙ d.begins in
            let far : (j - n) * size ≡ (j - d.first) * size = ap (λ (i : ℕ). (j - i) * size) (sym same) in
            let reach = reached k.table n (j - n) d.object shaped begins (let r = d.reaches in omega (arith, r, far)) in
            not_outside n m j out (let low = d.low in omega arith) (let low = d.low in omega (arith, reach, together))
        | inr ne ↦ first_not_rest k.table d.first d.object d.begins (behind d.first (omega arith) q.1)
      ])
    ],
  )
    where
      kept_there : (i : ℕ) → kept_of after (i * (released k.table n).words_per_region) ≡ kept_of k (i * size)
      kept_there i = kept_same (i * (released k.table n).words_per_region) ∙ ap (kept_of k) (bottom_same i)

      not_outside : (n m j : ℕ) → IsOutside n m j → n ≤ j → j < n + m → ⊥
      not_outside n m j (inl lt) low high = omega arith
      not_outside n m j (inr past) low high = omega arith

  dead_other : (j : ℕ) → IsOutside n m j → IsDead after j ↔ IsDead k j
  dead_other j out = (
    λ d. elim d [ inl r ↦ inl ((region_other j out).0 r) | inr r ↦ inr ((run_other j out).0 r) ],
    λ d. elim d [ inl r ↦ inl ((region_other j out).1 r) | inr r ↦ inr ((run_other j out).1 r) ],
  )

  as_new : (j : ℕ) → n ≤ j → j < n + m → IsAsNew after j
  as_new j low high = record {
    free = frees.free j low high;
    set = emptied_now ∙ sym (emptied_twice (set_of k.sets j)) ∙ ap emptied (sym emptied_now);
    entered = λ card own.
        let at : card / k.sets.cards_per_region ≡ j = ap (λ (c : ℕ). card / c) (sym empty.cards) ∙ own in
        empty.entered card ∙ ap (λ (b : Bool). if b then false else has k.sets.entered card)
        (ap (is_between n (n + m)) at ∙ inside j low high);
    previous_top = low_previous j low high ∙ sym (bottom_same j);
    next_top = low_next j low high ∙ sym (bottom_same j);
    previous_marks = λ a i. mark_gone f.previous a (region_gone a i);
    next_marks = λ a i. mark_gone f.next a (region_gone a i);
    age = aged.each j ∙ ap (λ (b : Bool). if b then 0 else stamp_of k.ages j) (inside j low high);
  }
    where
      emptied_now : set_of ss j ≡ emptied (set_of k.sets j)
      emptied_now = empty.cleared j (inside j low high)

      region_gone : (a : ℕ) → is_in_region (released k.table n).words_per_region j a ≡ true → is_between n (n + m) (a / size) ≡ true
      region_gone a i =
          ap (is_between n (n + m)) (ranges.nth_region size j a (subst (λ (w : ℕ). is_in_region w j a ≡ true) frees.size i))
          ∙ inside j low high

  as_before : (j : ℕ) → IsOutside n m j → IsAsBefore k after j
  as_before j out = record {
    region = frees.others j out;
    set = empty.others j (outside j out);
    cards = empty.cards;
    entered = λ card own. others_entered card (subst (λ (q : ℕ). IsOutside n m q) (sym own) out);
    previous_top = top_left f.previous j (outside j out);
    next_top = top_left f.next j (outside j out);
    previous_marks = λ a i. mark_left f.previous a (near j a out i);
    next_marks = λ a i. mark_left f.next a (near j a out i);
    age = aged.each j ∙ ap (λ (b : Bool). if b then 0 else stamp_of k.ages j) (outside j out);
  }

  pub released_from : (c : CoreState) → k ≡ c → HasReleased n m c after
  released_from c e = subst (λ (d : CoreState). HasReleased n m d after) e (record {
    changes = record { same = refl; marker = f.same; ages = aged.same; size = frees.size; kept = kept_same };
    count = frees.count;
    each_set = empty.count;
    within = frees.known;
    released = as_new;
    others = as_before;
    dead = dead_other;
  })
