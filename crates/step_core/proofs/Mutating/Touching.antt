-- A register takes what was read from a weak slot, which is saved while marking runs: k is the core by its fields, c the same by its value.
use Rattle.std.proofs.Common.{◌≡◌, ℕ, ◌<◌, ◌≤◌, true, false, Option, Some, length, refl, sym, ◌∙◌, ap, subst, arith, ◌==◌, slice_set}
use Rattle.std.proofs.lemmas.List.{length-set}
use Rattle.heap_model.specs.Graph.{Graph, next_name, with_root}
use Rattle.heap_model.specs.Heap.{Heap, IsShown, RootSet}
use Rattle.heap_model.specs.Marking.{IsSaved}
use Rattle.heap_model.specs.Weak.{touched, KeepsUnreached}
use Rattle.heap_model.proofs.Waiting.{will_root_set}
use Rattle.heap_model.proofs.Touched.{touched_invariant}
use Rattle.heap_model.proofs.Unreached.{touched_next, unreached_root, unreached_touched}
use Rattle.satb_log.specs.Logs.{log_of}
use Rattle.root_table.specs.Roots.{RootTable}
use Rattle.graph_runs.specs.State.{root_counts_of, register_place}
use Rattle.heap_steps.specs.declared.step.Register.{Register}
use Rattle.marker.specs.Views as views
use Rattle.marker.specs.Stands.{MarkerStands, IsKept}
use Rattle.marker.specs.Steps.{SameRoles, KeepsSnapshots, Overwrites}
use Rattle.marker.specs.declared.marker.Marker.{Marker}
use Rattle.marker.proofs.Views.{same_heap}
use Rattle.marker.proofs.Done.{undone}
use Rattle.step_core.specs.Stands.{CoreState, kept_of, heap_of, marking_of, RemembersFields, ShowsGraph, KeepsFrom, IsCore, IsWordOf}
use Rattle.step_core.specs.Cycle.{LeavesRegions}
use Rattle.step_core.specs.Mutators.{with_root_word}
use Rattle.step_core.specs.Parts.{Touches}
use Rattle.step_core.proofs.Cores.Keeping.{register_at, register_shows}
use Rattle.step_core.proofs.Cores.Layers.{layers_marked}
use Rattle.step_core.proofs.Cores.Remembering.{remembers_on, same_fields}
use Rattle.step_core.proofs.Cores.Slots.{slots_same}
use Rattle.step_core.proofs.Cores.Resting.{core_over, root_rests}
use Rattle.step_core.proofs.Mutating.Logging.{HaveRoom, Saves, TakesLog, idle_overwrites, overwrites_full, overwrites_room}
use Rattle.step_core.proofs.Mutating.Logging.{roles_trans, same_roles, saved_room, taken_room}
use Rattle.step_core.proofs.Mutating.Reading.{shown_there}
use Rattle.step_core.proofs.Mutating.Stored.{Ends}
use Rattle.step_core.proofs.Mutating.Storing.{is_kept}

-- the core with a root word and the marker changed
abbrev pub with_touch : CoreState → ℕ → Option ℕ → Marker → CoreState
with_touch c place w m = record c { roots = slice_set c.roots place w; marker = m }

-- the core with another root word and marker, where what is kept stays
module _ (k : CoreState) (core : IsCore k) (place : ℕ) (w : Option ℕ) (m : Marker) (same : SameRoles k.marker m) where
  kept_same : (b : ℕ) → kept_of (with_touch k place w m) b ≡ kept_of k b
  unfolding kept_of
  kept_same b = ap (λ (h : Heap). h.kept b) (same_heap k.table k.roots k.marker m same)

  set_in : RootSet (heap_of k) (heap_of (with_touch k place w m)) place w
  set_in = record { kept = kept_same; roots = refl }

  shows_by : (g : Graph) (v : Option ℕ) → ShowsGraph g k → IsShown (heap_of k) w v
      → ShowsGraph (with_root g place v) (with_touch k place w m)
  shows_by g v s shown = record {
    room = s.room;
    places = s.places;
    next = s.next;
    shows = will_root_set g (heap_of k) (heap_of (with_touch k place w m)) s.shows place w v shown set_in;
  }

  remembers_by : RemembersFields (with_touch k place w m)
  remembers_by = remembers_on k (with_touch k place w m) refl refl refl refl
      (same_fields (kept_of k) (kept_of (with_touch k place w m)) kept_same) core.remembers

  -- what every core keeps, where the snapshot of the touched name is kept
  kept_by_touch : (v : Option ℕ) → IsShown (heap_of k) w v → KeepsFrom (touched core.footing.snapshot v) (with_touch k place w m)
      → MarkerStands k.table m → length m.logs ≡ length k.marker.logs
      → ((mutator : ℕ) → length (log_of m.logs mutator) < 8) → IsCore (with_touch k place w m)
  kept_by_touch v shown keeps st logs room = core_over k core k.table k.buffers m k.cards k.sets (slice_set k.roots place w)
      (length-set k.roots place w) (layers_marked k.config k.table k.buffers k.marker m core.layers st same.tams same.room logs room)
      core.cards remembers_by (slots_same k (with_touch k place w m) core.slots refl kept_same (λ b h. h))
      (record { graph = with_root core.footing.graph place v; snapshot = touched core.footing.snapshot v }) (record {
        shows = shows_by core.footing.graph v core.rests.shows shown;
        keeps = keeps;
        sound = root_rests core.footing.graph k place w v core.rests.shows shown core.rests.sound;
        unreached = unreached_root (touched core.footing.snapshot v) core.footing.graph
            (unreached_touched core.footing.snapshot core.footing.graph core.rests.unreached v) place v;
        pairs = core.rests.pairs;
      })

  earlier_by : (s : Graph) (v : Option ℕ) → KeepsFrom s k → next_name (touched s v) ≤ k.next
  earlier_by s v f = let next = touched_next s v in let early = f.earlier in omega (arith, next, early)

  -- the target was saved
  module _ (run : k.marker.running ≡ true) (kept : IsSaved (views.marking_of k.table k.marker) (views.marking_of k.table m) w) where
    saved_by : (s g : Graph) (v : Option ℕ) → ShowsGraph g k → KeepsUnreached s g → IsShown (heap_of k) w v → KeepsFrom s k
        → KeepsFrom (touched s v) (with_touch k place w m)
    saved_by s g v shows u shown f = record {
      earlier = earlier_by s v f;
      marking = λ on. touched_invariant s g (heap_of k) (marking_of k) shows.shows (f.marking run) u (core.layers.marker.scanned_marked run)
          (undone k.table k.marker core.layers.marker run)
          (heap_of (with_touch k place w m)) (marking_of (with_touch k place w m)) place w v shown set_in kept;
    }

    -- and then a log was taken
    module _ (m2 : Marker) (then : SameRoles m m2) (snapshots : KeepsSnapshots k.table m m2) where
      taken_by : (s g : Graph) (v : Option ℕ) → ShowsGraph g k → KeepsUnreached s g → IsShown (heap_of k) w v → KeepsFrom s k
          → KeepsFrom (touched s v) (with_touch k place w m2)
      unfolding kept_of
      taken_by s g v shows u shown f = record {
        earlier = earlier_by s v f;
        marking = λ on. snapshots (touched s v) (with_root g place v) (slice_set k.roots place w) (shows_by g v shows shown).shows
            ((saved_by s g v shows u shown f).marking (same.running ∙ run));
      }

-- by the core's value, and by what the table of roots did
module _ (k c : CoreState) (e : k ≡ c) (core : IsCore k) (m : ℕ) (to : Register) (w : Option ℕ) (word : IsWordOf (heap_of c) w)
    (rs : RootTable) (is : rs ≡ record { places = k.places; words = slice_set k.roots (register_place k.places m to.number) w }) where
  abbrev place : ℕ
  place = register_place (root_counts_of c.config) m to.number

  -- the core with the register and the marker changed
  abbrev pub after : Marker → CoreState
  after m2 = record k { places = rs.places; roots = rs.words; marker = m2 }

  after_is : (m2 : Marker) → with_touch k place w m2 ≡ after m2
  after_is m2 = ap (λ (p : ℕ). with_touch k p w m2) (sym (register_at k c e core m to.number))
      ∙ ap (λ (r : RootTable). record k { places = r.places; roots = r.words; marker = m2 }) (sym is)

  word' : IsWordOf (heap_of k) w
  word' = subst (λ (d : CoreState). IsWordOf (heap_of d) w) (sym e) word

  -- what the word leads to is kept
  pub word_kept : (b : ℕ) → w ≡ Some b → IsKept k.table k.marker b
  word_kept b is_b =
      let there = shown_there (heap_of k) b word'.name (subst (λ (u : Option ℕ). IsShown (heap_of k) u word'.name) is_b word'.shown) in
      is_kept k b there.0 there.1

  -- what is left to show of the snapshot, the marker and its logs
  ends : (m2 : Marker) → SameRoles k.marker m2
      → ((s g : Graph) (v : Option ℕ) → ShowsGraph g k → KeepsUnreached s g → IsShown (heap_of k) w v → KeepsFrom s k
      → KeepsFrom (touched s v) (with_touch k place w m2))
      → MarkerStands k.table m2 → HaveRoom k.marker m2 → Overwrites c.marker.running c.table m w c.marker m2
      → Ends (Touches m to w c) (after m2)
  ends m2 same keeps st r over = subst (λ (d : CoreState). Ends (Touches m to w c) d) (after_is m2) (record {
    core = kept_by_touch k core place w m2 same word'.name word'.shown (keeps core.footing.snapshot core.footing.graph word'.name
        core.rests.shows core.rests.unreached word'.shown core.rests.keeps) st r.count r.room;
    does = record {
      shows = register_shows c (with_touch k place w m2) m to.number w (subst (λ (d : CoreState).
          (g : Graph) (v : Option ℕ) → ShowsGraph g d → IsShown (heap_of d) w v → ShowsGraph (with_root g place v)
          (with_touch k place w m2))
          e (shows_by k core place w m2 same));
      keeps = subst (λ (d : CoreState).
          (s g : Graph) (v : Option ℕ) → ShowsGraph g d → KeepsUnreached s g → IsShown (heap_of d) w v → KeepsFrom s d
          → KeepsFrom (touched s v) (with_touch k place w m2)) e keeps;
      core = ap (λ (d : CoreState). record (with_root_word d place w) { marker = m2 }) e;
      marker = over;
      leaves = subst (λ (d : CoreState). LeavesRegions d (with_touch k place w m2)) e (record { config = refl; in_use = λ j used. used });
    };
  })

  -- while marking doesn't run
  pub idle_ends : k.marker.running ≡ false → Ends (Touches m to w c) (after k.marker)
  idle_ends idle = ends k.marker (same_roles k.marker)
      (λ s g v shows u shown f. record {
        earlier = earlier_by k core place w k.marker (same_roles k.marker) s v f;
        marking = λ run. absurd cc;
      }) core.layers.marker (record { count = refl; room = core.layers.room }) (idle_overwrites k c e m w idle)

  -- while it runs the word is saved
  module _ (run : k.marker.running ≡ true) (m1 : Marker) (s : Saves k.table m w k.marker m1) where
    -- no log was full
    pub saved_ends : (length (log_of m1.logs m) == 8) ≡ false → Ends (Touches m to w c) (after m1)
    saved_ends left = ends m1 s.same (saved_by k core place w m1 s.same run s.saved) s.stands (saved_room k c e core m w m1 s left)
        (overwrites_room k c e m w run m1 m1 s.after left refl)

    -- a log of eight was taken
    pub taken_ends : m < c.config.mutators → (length (log_of m1.logs m) == 8) ≡ true → (m2 : Marker) → TakesLog k.table m m1 m2
        → Ends (Touches m to w c) (after m2)
    taken_ends known full m2 l = ends m2 (roles_trans k.marker m1 m2 s.same l.took.same)
        (taken_by k core place w m1 s.same run s.saved m2 l.took.same l.snapshots) l.stands
        (taken_room k c e core m w m1 s known m2 l.took.emptied) (overwrites_full k c e m w run m1 m2 s.after full l.took)
