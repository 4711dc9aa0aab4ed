-- Weak slots are cleared in a core: k is the core by its fields before that.
use Rattle.std.proofs.Common.{◌≡◌, ◌<◌, ◌≤◌, ◌⊎◌, ◌∷◌, ◌++◌, ◌∙◌, ℕ, zero, suc, List, [], Option, Some, None}
use Rattle.std.proofs.Common.{map, refl, sym, ap, subst, arith, inl, inr, slice_get, slice_index}
use Rattle.std.proofs.lemmas.List.{length-map}
use Rattle.heap_model.specs.Graph.{Graph, IsReachable, next_name, held_by}
use Rattle.heap_model.specs.Heap.{Stored, fields}
use Rattle.heap_model.specs.Marking.{Marking, KeepsSnapshot}
use Rattle.heap_model.specs.Weak.{cleared, cleared_object, cleared_word}
use Rattle.std.proofs.lemmas.Bool.{cases_lt}
use Rattle.regions.specs.Shaped.{IsShaped}
use Rattle.regions.proofs.Words.Fields.{held_by_long}
use Rattle.regions.specs.Tiles.{Object, tile_size}
use Rattle.regions.specs.Table.{Table, object_at, object_words}
use Rattle.alloc_buffers.specs.Placement.{Buffers, BuffersStand, AreAbove, IsAbove}
use Rattle.regions.specs.declared.row.Kind.TheVariants as kinds
use Rattle.marker.specs.Views as views
use Rattle.marker.specs.Clears.{ClearsSome, IsBetween, LooksAt}
use Rattle.heap_words.specs.Configs.{card_words}
use Rattle.cards.specs.Cards.{is_dirty}
use Rattle.remembered_sets.specs.Sets.{may_lead}
use Rattle.refinement.specs.Remembering.{Remembers, IsCrossing}
use Rattle.step_core.specs.Stands.{CoreState, kept_of, RemembersFields, ShowsGraph, KeepsFrom, heap_of, marking_of, IsClearing, IsCore}
use Rattle.step_core.proofs.Cores.Resting.{core_clearing}
use Rattle.step_core.specs.Cycle.{HasSettled, HasLooked, IsAhead}
use Rattle.step_core.proofs.Cores.Added.{stand_same, object_none}
use Rattle.step_core.proofs.Mutating.Small.{IsHalf, IsOver, sizes_same, words_are, words_none}
use Rattle.heap_model.specs.Clearing.{ClearsWeaks, IsPassed, kept_word, with_kept_weaks}
use Rattle.heap_model.proofs.Held.{held_by_was}
use Rattle.heap_model.proofs.Waiting.{will_cleared, cleared_further, cleared_target, cleared_invariant}
use Rattle.marker.proofs.Ended.{cleared_stands, clears_weaks, clears_done, lead_cleared}
use Rattle.step_core.proofs.Cores.Layers.{follows_of}
use Rattle.step_core.proofs.Mutating.Written.{marking_same}

-- what weak slots and held slots hold once they are cleared they held
behind_were : (kept : ℕ → Option Stored) (ws ks hs : List (Option ℕ)) (i v : ℕ)
    → slice_get (map (kept_word kept) ws ++ held_by ks hs) i ≡ Some (Some v) → slice_get (ws ++ hs) i ≡ Some (Some v)
behind_were kept [] ks hs i v e = held_by_was ks hs i v e
behind_were kept (w ∷ ws) ks hs zero v e = (cleared_target kept (w ∷ []) zero v e).0
behind_were kept (w ∷ ws) ks hs (suc i) v e = behind_were kept ws ks hs i v e

slots_were : (kept : ℕ → Option Stored) (ps ws ks hs : List (Option ℕ)) (i v : ℕ)
    → slice_get (ps ++ (map (kept_word kept) ws ++ held_by ks hs)) i ≡ Some (Some v) → slice_get (ps ++ (ws ++ hs)) i ≡ Some (Some v)
slots_were kept [] ws ks hs i v e = behind_were kept ws ks hs i v e
slots_were kept (p ∷ ps) ws ks hs zero v e = e
slots_were kept (p ∷ ps) ws ks hs (suc i) v e = slots_were kept ps ws ks hs i v e

-- the object at an address after the clearing: as it was, or with its slots cleared
record WasObject (m : Marking) (t : Table) (a : ℕ) (y : Stored) : Type 0 where
  before : Stored
  was : object_at t a ≡ Some before
  is : (y ≡ before) ⊎ (y ≡ cleared m before)

was_object : (m : Marking) (t t' : Table) (d : ℕ → Type 0) (a : ℕ) (y : Stored) → ClearsSome m t t' d → object_at t' a ≡ Some y
    → WasObject m t a y
was_object m t t' d a y c e = elim (c.each a) [
  | inl same ↦ record { before = y; was = sym same ∙ e; is = inl refl }
  | inr q ↦ go (object_at t a) refl (sym q.1 ∙ e)
]
  where
    go : (o : Option Stored) → object_at t a ≡ o → cleared_object m (object_at t a) ≡ Some y → WasObject m t a y
    go None is q = absurd (let none = ap (cleared_object m) is in cc)
    go (Some x) is q =
        record { before = x; was = is; is = inr (let some = ap (cleared_object m) is in let same : cleared m x ≡ y = cc in sym same) }

cleared_size : (m : Marking) (x : Stored) → tile_size (Object (cleared m x)) ≡ tile_size (Object x)
cleared_size m x =
    let weaks = length-map x.weaks (cleared_word m) in
    let held = held_by_long (map (cleared_word m) x.weaks) x.held in
    omega (arith, weaks, held)

module _ (m : Marking) (t t' : Table) (d : ℕ → Type 0) (c : ClearsSome m t t' d) where
  -- objects have as many words as before
  pub words_same : (a : ℕ) → object_words t' a ≡ object_words t a
  words_same a = go (object_at t' a) refl
    where
      none_before : (o : Option Stored) → object_at t a ≡ o → object_at t' a ≡ None → object_words t' a ≡ object_words t a
      none_before None e none = words_none t' a none ∙ sym (words_none t a e)
      none_before (Some x) e none = absurd (elim (c.each a) [
        | inl same ↦ (let q : None ≡ Some x = sym none ∙ same ∙ e in cc)
        | inr k ↦ (let q : None ≡ cleared_object m (Some x) = sym none ∙ k.1 ∙ ap (cleared_object m) e in cc)
      ])

      go : (o : Option Stored) → object_at t' a ≡ o → object_words t' a ≡ object_words t a
      go None e = none_before (object_at t a) refl e
      go (Some y) e =
          let w = was_object m t t' d a y c e in
          words_are t' a y e ∙ elim w.is [
            | inl q ↦ ap (λ (z : Stored). tile_size (Object z)) q
            | inr q ↦ ap (λ (z : Stored). tile_size (Object z)) q ∙ cleared_size m w.before
          ] ∙ sym (words_are t a w.before w.was)

  above_cleared : (b : Buffers) (limit : ℕ → ℕ) → AreAbove t b limit → AreAbove t' b limit
  above_cleared b limit above = record {
    tops = λ j lt. subst (λ (n : ℕ). limit j ≤ n) (sym (c.tops j)) (above.tops j (rw (sym c.count) lt));
    buffers = λ i x e. subst (λ (n : ℕ). IsAbove n limit x.next) (sym c.size) (above.buffers i x e);
  }

  buffers_cleared : (b : Buffers) → BuffersStand t b → BuffersStand t' b
  buffers_cleared b s =
      stand_same t t' b c.count c.kinds (λ i x e. let f = s.fillers i x e in c.tiles x.next (object_none t x.next x.rest f.filler)) s

-- clearing goes on, from where it was to another place
module _ (k : CoreState) (core : IsCore k) (t : Table) (to : Option ℕ) (d : ℕ → Type 0)
    (c : ClearsSome (views.ended_marking_of k.table k.marker) k.table t d)
    (on : (a : ℕ) → IsPassed to a → IsPassed k.clearing a ⊎ d a) where
  abbrev after : CoreState
  after = record k { table = t; clearing = to }

  abbrev told : Marking
  told = views.ended_marking_of k.table k.marker

  weaks : ClearsWeaks (heap_of k) (heap_of after)
  unfolding kept_of
  weaks = clears_weaks k.table t k.marker k.roots d c core.slots.lead

  pub settled_shows : (g : Graph) → ShowsGraph g k → ShowsGraph g after
  settled_shows g s = record {
    room = s.room;
    places = s.places;
    next = s.next;
    shows = will_cleared g (heap_of k) (heap_of after) s.shows weaks;
  }

  pub settled_keeps : (s : Graph) → KeepsFrom s k → KeepsFrom s after
  settled_keeps s f = record {
    earlier = f.earlier;
    marking = λ run. subst (λ (m : Marking). KeepsSnapshot s (heap_of after) m) (sym (marking_same k.table t k.marker c.size))
        (cleared_invariant (IsReachable s) (next_name s) (heap_of k) (heap_of after) (marking_of k) weaks (f.marking run));
  }

  settled_slots : IsClearing after
  unfolding kept_of
  settled_slots = record {
    cleared = cleared_further (heap_of k) (heap_of after) k.clearing to weaks core.slots.cleared
        (λ a x p at. elim (on a p) [
          | inl before ↦ inl before
          | inr done ↦ inr (clears_done k.table t k.marker k.roots d c core.slots.lead a x done at)
        ]);
    lead = lead_cleared k.table t k.marker k.roots d c core.slots.lead;
  }

  -- what crosses did before
  was_crossing : (a i v : ℕ) → IsCrossing k.table.words_per_region (kept_of after) a i v
      → IsCrossing k.table.words_per_region (kept_of k) a i v
  was_crossing a i v x = elim (weaks.each a) [
    | inl same ↦ record { object = x.object; kept_is = sym same ∙ x.kept_is; field_is = x.field_is; leaves = x.leaves }
    | inr q ↦
        let same : with_kept_weaks (kept_of k) q.0 ≡ x.object = let e1 = q.2 in let e2 = x.kept_is in cc in
        record {
          object = q.0;
          kept_is = q.1;
          field_is = slots_were (kept_of k) q.0.pointers q.0.weaks (map (kept_word (kept_of k)) q.0.weaks) q.0.held i v
              (ap (λ (z : Stored). slice_get (fields z) i) same ∙ x.field_is);
          leaves = x.leaves;
        }
  ]

  settled_remembers : RemembersFields after
  settled_remembers =
      subst (λ (words : ℕ). Remembers words (kept_of after) (card_words k.config) (is_dirty k.cards) (may_lead k.sets)) (sym c.size)
      (record { each = λ a i v x. core.remembers.each a i v (was_crossing a i v x) })

  pub settled_kept : IsCore after
  settled_kept =
      let shows = settled_shows core.footing.graph core.rests.shows in
      let keeps = settled_keeps core.footing.snapshot core.rests.keeps in
      let words = words_same told k.table t d c in
      core_clearing k core t k.marker to (record {
        region_size = c.size ∙ core.layers.region_size;
        region_count = c.count ∙ core.layers.region_count;
        buffer_size = core.layers.buffer_size;
        open_buffers = core.layers.open_buffers;
        logs = core.layers.logs;
        waits = core.layers.waits;
        buffers = buffers_cleared told k.table t d c k.buffers core.layers.buffers;
        unmoved = c.unmoved core.layers.unmoved;
        marker = cleared_stands k.table t told d c k.marker (follows_of after core.footing.graph core.footing.snapshot shows keeps)
            core.layers.marker;
        above_previous = above_cleared told k.table t d c k.buffers (slice_index k.marker.tams.previous) core.layers.above_previous;
        above_next = above_cleared told k.table t d c k.buffers (slice_index k.marker.tams.next) core.layers.above_next;
        room = core.layers.room;
        halves = sizes_same kinds.Ordinary IsHalf k.table t c.size c.kinds words core.layers.halves;
        wide = sizes_same kinds.First IsOver k.table t c.size c.kinds words core.layers.wide;
      }) settled_remembers settled_slots core.footing (record {
        shows = shows;
        keeps = keeps;
        sound = core.rests.sound;
        unreached = core.rests.unreached;
        pairs = core.rests.pairs;
      })

-- where nothing is left, nothing changes
pub settled_nothing : (c : CoreState) → IsCore c → IsShaped c.table → c.clearing ≡ None → HasSettled c c
settled_nothing c core shape none = record {
  shows = λ g s. s;
  keeps = λ s f. f;
  core = core;
  shaped = shape;
  same = ap (λ (p : Option ℕ). record c { clearing = p }) none;
  nothing = λ n. refl;
  cleared = nothing_cleared (views.ended_marking_of c.table c.marker) c.table (IsAhead c.clearing)
      (λ a ahead. let ahead' : IsAhead None a = subst (λ (p : Option ℕ). IsAhead p a) none ahead in ahead');
}
  where
    nothing_cleared : (m : Marking) (t : Table) (d : ℕ → Type 0) → ((a : ℕ) → d a → ⊥) → ClearsSome m t t d
    nothing_cleared m t d never = record {
      size = refl;
      count = refl;
      kinds = λ k. refl;
      tops = λ k. refl;
      unmoved = λ n. n;
      each = λ a. inl refl;
      done_is = λ a n s. absurd (never a n);
      tiles = λ a e. refl;
    }

-- the same for other addresses
done_for : (m : Marking) (t t' : Table) (d e : ℕ → Type 0) → ClearsSome m t t' d → ((a : ℕ) → e a → d a) → ClearsSome m t t' e
done_for m t t' d e c f = record {
  size = c.size;
  count = c.count;
  kinds = c.kinds;
  tops = c.tops;
  unmoved = c.unmoved;
  each = c.each;
  done_is = λ a n s. c.done_is a (f a n) s;
  tiles = c.tiles;
}

module _ (k : CoreState) (core : IsCore k) (from : ℕ) (at : k.clearing ≡ Some from) (t : Table) where
  passed_or_ahead : (a : ℕ) → IsPassed k.clearing a ⊎ (from ≤ a)
  passed_or_ahead a = elim (cases_lt a from) [
    | inl lt ↦ inl (subst (λ (p : Option ℕ). IsPassed p a) (sym at) lt)
    | inr ge ↦ inr ge
  ]

  -- clearing comes to its end
  module _ (c : ClearsSome (views.ended_marking_of k.table k.marker) k.table t (λ (a : ℕ). from ≤ a)) where
    pub rest_shows : (g : Graph) → ShowsGraph g k → ShowsGraph g (record k { table = t; clearing = None })
    rest_shows = settled_shows k core t None (λ (a : ℕ). from ≤ a) c (λ a p. passed_or_ahead a)

    pub rest_keeps : (s : Graph) → KeepsFrom s k → KeepsFrom s (record k { table = t; clearing = None })
    rest_keeps = settled_keeps k core t None (λ (a : ℕ). from ≤ a) c (λ a p. passed_or_ahead a)

    pub rest_kept : IsCore (record k { table = t; clearing = None })
    rest_kept = settled_kept k core t None (λ (a : ℕ). from ≤ a) c (λ a p. passed_or_ahead a)

    pub rest_settled : IsShaped t → (d : CoreState) → k ≡ d → HasSettled d (record k { table = t; clearing = None })
    rest_settled shape d e = subst (λ (x : CoreState). HasSettled x (record k { table = t; clearing = None })) e (record {
      shows = rest_shows;
      keeps = rest_keeps;
      core = rest_kept;
      shaped = shape;
      same = refl;
      nothing = λ none. absurd (let some = at in cc);
      cleared = done_for (views.ended_marking_of k.table k.marker) k.table t (λ (a : ℕ). from ≤ a) (IsAhead k.clearing) c
          (λ a ahead. let ahead' : IsAhead (Some from) a = subst (λ (p : Option ℕ). IsAhead p a) at ahead in ahead');
    })

  -- clearing goes on for a while
  module _ (left : Option ℕ) (c : ClearsSome (views.ended_marking_of k.table k.marker) k.table t (IsBetween from left)) where
    between : (a : ℕ) → IsPassed left a → IsPassed k.clearing a ⊎ IsBetween from left a
    between a p = elim (passed_or_ahead a) [ inl before ↦ inl before | inr low ↦ inr (low, p) ]

    pub part_shows : (g : Graph) → ShowsGraph g k → ShowsGraph g (record k { table = t; clearing = left })
    part_shows = settled_shows k core t left (IsBetween from left) c between

    pub part_keeps : (s : Graph) → KeepsFrom s k → KeepsFrom s (record k { table = t; clearing = left })
    part_keeps = settled_keeps k core t left (IsBetween from left) c between

    pub part_kept : IsCore (record k { table = t; clearing = left })
    part_kept = settled_kept k core t left (IsBetween from left) c between

    pub part_looked : (d : CoreState) → k ≡ d → (units n : ℕ) → n ≤ units → (n < units → left ≡ None) → LooksAt k.table from left n
        → HasLooked units n d (record k { table = t; clearing = left })
    part_looked d e units n most over looks =
        subst (λ (x : CoreState). HasLooked units n x (record k { table = t; clearing = left })) e (record {
          same = refl;
          most = most;
          over = over;
          nothing = λ none. absurd (let some = at in cc);
          looked = λ place here. let same : from ≡ place = (let q = at in cc) in
              subst (λ (p : ℕ). LooksAt k.table p left n) same looks;
          cleared = λ place here. let same : from ≡ place = (let q = at in cc) in
              subst (λ (p : ℕ). ClearsSome (views.ended_marking_of k.table k.marker) k.table t (IsBetween p left)) same c;
        })

pub looked_nothing : (c : CoreState) (units : ℕ) → c.clearing ≡ None → HasLooked units 0 c c
looked_nothing c units none = record {
  same = refl;
  most = omega arith;
  over = λ less. none;
  nothing = λ n. (refl, refl);
  looked = λ place here. absurd (let n = none in cc);
  cleared = λ place here. absurd (let n = none in cc);
}
