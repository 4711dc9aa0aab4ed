-- A new object.
use Rattle.std.proofs.Common.{◌≡◌, ◌≢◌, ◌+◌, ◌-◌, ◌/◌, ◌^◌, ◌<◌, ◌≤◌, ◌∷◌, ◌∙◌, ℕ, zero, suc, false, Some, None, List, [], replicate, refl}
use Rattle.std.proofs.Common.{sym, ap, subst, arith, inl, inr, ◌==◌, slice_set, slice_index, nat_lt, Bool, true, Option, length}
use Rattle.std.proofs.Common.{if◌then◌else◌}
use Rattle.std.proofs.lemmas.Bool.{cases_eq, eq-eqb}
use Rattle.std.specs.List.{AllZip}
use Rattle.std.proofs.lemmas.Grind.{common_steps}
use Rattle.std.proofs.lemmas.Bool.Decides.{nat_tests}
use Rattle.std.proofs.lemmas.List.{length-set, length-append}
use Rattle.heap_words.specs.Configs.{object_limit}
use Rattle.heap_model.specs.Graph.{Graph, Object, RootCounts, IsReachable, next_name, with_object}
use Rattle.heap_model.specs.Heap.{Heap, Stored, IsShown, ObjectAdded}
use Rattle.heap_model.specs.Kept.{kept_by}
use Rattle.heap_model.specs.Marking.{Marking, KeepsSnapshot}
use Rattle.heap_model.proofs.Mutate.{object_added}
use Rattle.heap_model.proofs.Waiting.{will_object_added}
use Rattle.heap_model.proofs.Unreached.{object_sound, unreached_object}
use Rattle.regions.specs.Table.{Table, new_object, object_at, object_words, pointers_at}
use Rattle.graph_runs.specs.State.{register_place, root_counts_of}
use Rattle.graph_runs.specs.Machine.{made}
use Rattle.graph_runs.proofs.Sound.{no_pairs_added}
use Rattle.heap_steps.specs.declared.step.Action.TheVariants as actions
use Rattle.heap_steps.specs.declared.step.Reply.TheVariants as replies
use Rattle.heap_steps.specs.declared.step.Register.{Register}
use Rattle.alloc_buffers.specs.Placement.{Buffers, IsAbove, AreAbove}
use Rattle.regions.specs.declared.row.Kind.TheVariants as kinds
use Rattle.mark_bitmap.specs.Marks.{is_marked}
use Rattle.mark_bitmap.specs.Tops.{is_below}
use Rattle.step_core.specs.Stands.{CoreState, kept_of, heap_of, marking_of, ShowsGraph, KeepsFrom, IsCore}
use Rattle.region_choice.specs.Ages.{Ages, next_stamp, with_taken}
use Rattle.step_core.specs.Mutators.{with_current}
use Rattle.step_core.specs.Cycle.{LeavesRegions}
use Rattle.step_core.specs.Answers.{Acts}
use Rattle.step_core.proofs.Mutating.Acting.{acts_by}
use Rattle.step_core.proofs.Mutating.Fields.{nil_get, nil_fields}
use Rattle.step_core.proofs.Mutating.Small.{IsHalf, IsOver, pointers_by, sizes_added, words_by}
use Rattle.step_core.proofs.Cores.Added.{Creates}
use Rattle.step_core.proofs.Cores.Sizes.{some_words}
use Rattle.step_core.proofs.Mutating.Written.{kept_is, kept_above, kept_same, marking_same}
use Rattle.step_core.proofs.Cores.Remembering.{remembers_new}
use Rattle.step_core.proofs.Cores.Layers.{follows_of, stands_over}
use Rattle.step_core.proofs.Cores.Slots.{slots_added, leads_elsewhere, object_stays}

abbrev fresh : ℕ → ℕ → ℕ → Object
fresh p weak d = record { pointers = replicate p None; weaks = replicate weak None; held = []; values = replicate d 0 }

not_below : (a b : ℕ) → b ≤ a → nat_lt a b ≡ false
not_below a b le = grind (arith, common_steps, nat_tests)

not_same : (a b : ℕ) → a ≢ b → (a == b) ≡ false
not_same a b ne = grind (arith, common_steps, nat_tests)

made_is : (g : Graph) (m p weak d : ℕ) (to : Register) → 2 + p + weak + d ≤ g.room → next_name g ≢ 2 ^ 64 - 1
    → made g m to (record { pointers = p; values = d }) weak
    ≡ (replies.Named (Some (next_name g)), with_object g (fresh p weak d) (register_place g.places m to.number))
made_is g m p weak d to h n =
    let fits : nat_lt g.room (2 + p + weak + d) ≡ false = not_below g.room (2 + p + weak + d) h in
    let there : (next_name g == 2 ^ 64 - 1) ≡ false = not_same (next_name g) (2 ^ 64 - 1) n in
    rw (fits, there) refl

nil_shown : (h : Heap) (p : ℕ) → AllZip (IsShown h) (replicate p None) (replicate p None)
nil_shown h zero = tt
nil_shown h (suc p) = (tt, nil_shown h p)

-- the core with a new object
abbrev pub with_new : CoreState → Table → Buffers → ℕ → ℕ → CoreState
with_new c t b place a = record c {
  table = t;
  buffers = b;
  roots = slice_set c.roots place (Some a);
  next = c.next + 1;
  ages = with_current c.ages c.buffers.current b.current;
}

-- there are as many ages
count_current : (ages : Ages) (was now : Option ℕ) → length (with_current ages was now).stamps ≡ length ages.stamps
count_current ages was None = refl
count_current ages None (Some k) = length-set ages.stamps k (next_stamp ages)
count_current ages (Some j) (Some k) = by_test (j == k)
  where
    by_test : (b : Bool) → length (if b then ages else with_taken ages k).stamps ≡ length ages.stamps
    by_test true = refl
    by_test false = length-set ages.stamps k (next_stamp ages)

-- the region that was current before isn't taken
pub current_same : (ages : Ages) (was : Option ℕ) → with_current ages was was ≡ ages
current_same ages None = refl
current_same ages (Some k) = ap (λ (b : Bool). if b then ages else with_taken ages k) (eq-eqb k k refl)

-- what lies above the tops of a region isn't below them
above_below : (words : ℕ) (tops : List ℕ) (a : ℕ) → 0 < words → IsAbove words (slice_index tops) a → is_below words tops a ≡ false
unfolding is_below
above_below words tops a z above = lt-not (above (a / words) (omega arith) (omega arith))
  where
    lt-not : slice_index tops (a / words) ≤ a → nat_lt a (slice_index tops (a / words)) ≡ false
    lt-not le = grind (arith, common_steps, nat_tests)

module _ (k : CoreState) (m : ℕ) (to : Register) (t2 : Table) (b1 : Buffers) (a p weak d : ℕ)
    (core : IsCore k) (makes : Creates k.table t2 k.buffers b1 a (new_object k.next p weak d))
    (room : 2 + p + weak + d ≤ object_limit k.config) (names : k.next ≢ 2 ^ 64 - 1) where
  words : t2.words_per_region ≡ k.table.words_per_region
  words = makes.region_size

  -- the place lies above both tops at mark start of its region
  new_below : (tops : List ℕ) → AreAbove k.table k.buffers (slice_index tops) → is_below k.table.words_per_region tops a ≡ false
  new_below tops above = above_below k.table.words_per_region tops a (some_words k core) (makes.above (slice_index tops) above).0

  abbrev new : ℕ → CoreState
  new place = with_new k t2 b1 place a

  kept_new : (place y : ℕ) → kept_of (new place) y
      ≡ kept_by (object_at t2) (is_below k.table.words_per_region k.marker.tams.previous) (is_marked k.marker.bitmaps.previous) y
  unfolding kept_of
  kept_new place y = rw words refl

  added : (place : ℕ) → ObjectAdded (heap_of k) (heap_of (new place)) a (new_object k.next p weak d) place
  added place = record {
    was = kept_is k a ∙ kept_above (object_at k.table) (is_below k.table.words_per_region k.marker.tams.previous)
        (is_marked k.marker.bitmaps.previous) a below ∙ makes.was;
    is = kept_new place a
        ∙ kept_above (object_at t2) (is_below k.table.words_per_region k.marker.tams.previous) (is_marked k.marker.bitmaps.previous) a below
        ∙ makes.is;
    nil = λ i b e. nil_get p i b e;
    bare = λ i b e. cc;
    others = λ y ne. kept_new place y ∙ kept_same (object_at k.table) (object_at t2)
        (is_below k.table.words_per_region k.marker.tams.previous) (is_marked k.marker.bitmaps.previous) y (makes.others y ne)
        ∙ sym (kept_is k y);
    roots = refl;
  }
    where
      below : is_below k.table.words_per_region k.marker.tams.previous a ≡ false
      below = new_below k.marker.tams.previous core.layers.above_previous

  new_shows : (g : Graph) → ShowsGraph g k → ShowsGraph (with_object g (fresh p weak d) (register_place (root_counts_of k.config) m
      to.number))
      (with_new k t2 b1 (register_place (root_counts_of k.config) m to.number) a)
  new_shows g s = record {
    room = s.room;
    places = s.places;
    next = (let next = s.next in let len = length-append g.objects (fresh p weak d ∷ []) in omega arith);
    shows = will_object_added g (heap_of k) (heap_of (with_new k t2 b1 (register_place (root_counts_of k.config) m to.number) a)) s.shows a
        (new_object k.next p weak d) (fresh p weak d) (register_place (root_counts_of k.config) m to.number)
        (added (register_place (root_counts_of k.config) m to.number)) (leads_elsewhere k a core.slots makes.was) (sym s.next)
        (nil_shown (heap_of k) p) (nil_shown (heap_of k) weak) tt refl;
  }

  -- the graph has its roots in the same places
  new_there : (g : Graph) → ShowsGraph g k → ShowsGraph (with_object g (fresh p weak d) (register_place g.places m to.number))
      (with_new k t2 b1 (register_place (root_counts_of k.config) m to.number) a)
  new_there g s = subst (λ (q : RootCounts). ShowsGraph (with_object g (fresh p weak d) (register_place q m to.number))
      (with_new k t2 b1 (register_place (root_counts_of k.config) m to.number) a)) (sym s.places) (new_shows g s)

  pub new_acts : (g : Graph) → ShowsGraph g k
      → Acts g m (actions.NewWeak to (record { pointers = p; values = d }) weak) (replies.Named (Some k.next))
      (with_new k t2 b1 (register_place (root_counts_of k.config) m to.number) a)
  new_acts g s =
      let next = s.next in
      let fits : 2 + p + weak + d ≤ g.room = rw s.room room in
      let there : next_name g ≢ 2 ^ 64 - 1 = λ h. names (sym next ∙ h) in
      acts_by g m (actions.NewWeak to (record { pointers = p; values = d }) weak) (replies.Named (Some k.next))
      (with_new k t2 b1 (register_place (root_counts_of k.config) m to.number) a)
      (replies.Named (Some (next_name g)), with_object g (fresh p weak d) (register_place g.places m to.number))
      (made_is g m p weak d to fits there) (ap (λ (j : ℕ). replies.Named (Some j)) (sym next)) (new_there g s)

  pub new_keeps : (s : Graph) → KeepsFrom s k → KeepsFrom s (with_new k t2 b1 (register_place (root_counts_of k.config) m to.number) a)
  new_keeps s f = record {
    earlier = (let le = f.earlier in omega arith);
    marking = λ run. subst (λ (marks : Marking). KeepsSnapshot s (heap_of (new (register_place (root_counts_of k.config) m to.number)))
        marks)
        (sym (marking_same k.table t2 k.marker words))
        (object_added (IsReachable s) (next_name s) (heap_of k) (marking_of k) (f.marking run)
        (heap_of (new (register_place (root_counts_of k.config) m to.number))) a (new_object k.next p weak d)
        (register_place (root_counts_of k.config) m to.number) (new_below k.marker.tams.next core.layers.above_next) f.earlier
        (added (register_place (root_counts_of k.config) m to.number)) (leads_elsewhere k a core.slots makes.was));
  }

  new_leaves_by : LeavesRegions k (with_new k t2 b1 (register_place (root_counts_of k.config) m to.number) a)
  new_leaves_by = record { config = refl; in_use = λ j used free. used (sym (makes.kinds_stay j used) ∙ free) }

  pub new_leaves : (c : CoreState) → k ≡ c → LeavesRegions c (with_new k t2 b1 (register_place (root_counts_of k.config) m to.number) a)
  new_leaves c e =
      subst (λ (d : CoreState). LeavesRegions d (with_new k t2 b1 (register_place (root_counts_of k.config) m to.number) a)) e new_leaves_by

  pub new_kept : IsCore (with_new k t2 b1 (register_place (root_counts_of k.config) m to.number) a)
  new_kept =
      let g = core.footing.graph in
      let shows = new_shows g core.rests.shows in
      let keeps = new_keeps core.footing.snapshot core.rests.keeps in
      let previous = (makes.above (slice_index k.marker.tams.previous) core.layers.above_previous).1 in
      let next = (makes.above (slice_index k.marker.tams.next) core.layers.above_next).1 in
      record {
        suits = core.suits;
        placed = core.placed;
        layers = record {
          region_size = words ∙ core.layers.region_size;
          region_count = makes.region_count ∙ core.layers.region_count;
          buffer_size = makes.words ∙ core.layers.buffer_size;
          open_buffers = makes.open_count ∙ core.layers.open_buffers;
          logs = core.layers.logs;
          waits = core.layers.waits;
          buffers = makes.stand;
          unmoved = makes.unmoved;
          marker = stands_over k.table t2 k.marker core.layers.marker makes.region_count words
              (λ j lt. previous.tops j (rw makes.region_count lt)) (λ j lt. next.tops j (rw makes.region_count lt)) still still_words
              still_pointers
              (follows_of (new (register_place (root_counts_of k.config) m to.number)) _ core.footing.snapshot shows keeps);
          above_previous = previous;
          above_next = next;
          room = core.layers.room;
          halves = sizes_added kinds.Ordinary IsHalf k.table t2 a (new_object k.next p weak d) words makes.kinds_stay makes.is makes.others
              (some_words k core) makes.half core.layers.halves;
          wide = sizes_added kinds.First IsOver k.table t2 a (new_object k.next p weak d) words makes.kinds_stay makes.is makes.others
              (some_words k core) makes.wide core.layers.wide;
        };
        cards = core.cards;
        remembers = remembers_new k (new (register_place (root_counts_of k.config) m to.number)) a (new_object k.next p weak d)
            (register_place (root_counts_of k.config) m to.number) refl words refl refl (added (register_place (root_counts_of k.config) m
            to.number))
            (λ i b e. nil_fields k.next p weak d i b e) core.remembers;
        room = core.room;
        rows = core.rows;
        ages = count_current k.ages k.buffers.current b1.current ∙ core.ages;
        places = length-set k.roots (register_place (root_counts_of k.config) m to.number) (Some a) ∙ core.places;
        names = (let old = core.names in omega arith);
        slots = slots_added k (new (register_place (root_counts_of k.config) m to.number)) a (new_object k.next p weak d)
            (register_place (root_counts_of k.config) m to.number) (added (register_place (root_counts_of k.config) m to.number))
            core.slots refl (λ i b e. nil_get weak i b e)
            (object_stays k (new (register_place (root_counts_of k.config) m to.number)) still);
        footing = record {
          graph = with_object g (fresh p weak d) (register_place (root_counts_of k.config) m to.number);
          snapshot = core.footing.snapshot;
        };
        rests = record {
          shows = shows;
          keeps = keeps;
          sound = object_sound g (fresh p weak d) (register_place (root_counts_of k.config) m to.number) core.rests.sound
              (λ i n e. nil_fields k.next p weak d i n e);
          unreached = unreached_object core.footing.snapshot g core.rests.unreached (fresh p weak d)
              (register_place (root_counts_of k.config) m to.number)
              (let next = core.rests.shows.next in let early = core.rests.keeps.earlier in omega (arith, next, early))
              (λ i b e. cc);
          pairs = no_pairs_added g (fresh p weak d) (register_place (root_counts_of k.config) m to.number) core.rests.pairs refl;
        };
      }
    where
      still : (y : ℕ) (x : Stored) → object_at k.table y ≡ Some x → (u : Stored) × (object_at t2 y ≡ Some u)
      still y x e = elim (cases_eq y a) [
        | inl q ↦ (new_object k.next p weak d, ap (object_at t2) q ∙ makes.is)
        | inr ne ↦ (x, makes.others y ne ∙ e)
      ]

      still_words : (y : ℕ) (x : Stored) → object_at k.table y ≡ Some x → object_words t2 y ≡ object_words k.table y
      still_words y x e = elim (cases_eq y a) [
        | inl q ↦ absurd (let before = makes.was in let some = sym (ap (object_at k.table) q) ∙ e in cc)
        | inr ne ↦ words_by k.table t2 y (makes.others y ne)
      ]

      still_pointers : (y : ℕ) (x : Stored) → object_at k.table y ≡ Some x → length (pointers_at t2 y) ≡ length (pointers_at k.table y)
      still_pointers y x e = elim (cases_eq y a) [
        | inl q ↦ absurd (let before = makes.was in let some = sym (ap (object_at k.table) q) ∙ e in cc)
        | inr ne ↦ pointers_by k.table t2 y (makes.others y ne)
      ]
