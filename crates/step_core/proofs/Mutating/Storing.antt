-- The write barrier: a store into a pointer of an object that a root names.
use Rattle.std.proofs.lemmas.List.{length-set}
use Rattle.std.proofs.Common.{◌≡◌, ℕ, ◌+◌, ◌<◌, true, false, List, Option, Some, None, length, refl, sym, ◌∙◌, ap, subst, inl, inr, arith}
use Rattle.std.specs.Prelude.{slice_get, slice_set}
use Rattle.step_core.proofs.Cores.Keeping.{no_change}
use Rattle.heap_model.specs.Clearing.{kept_held}
use Rattle.heap_model.specs.Graph.{Graph, Object, IsReachable, IsSound, next_name, object_named, with_changed}
use Rattle.heap_model.specs.Heap.{Stored, IsRoot, IsHeld, IsShown, ObjectSet}
use Rattle.heap_model.specs.Marking.{Marking, KeepsSnapshot, IsSaved}
use Rattle.heap_model.specs.Weak.{KeepsUnreached}
use Rattle.heap_model.proofs.Lists.{AllZip-set}
use Rattle.heap_model.proofs.Unreached.{unreached_begins, unreached_changed}
use Rattle.heap_model.proofs.Shown.{followed, held_shown}
use Rattle.heap_model.proofs.Mutate.{object_set}
use Rattle.regions.specs.Tiles as tiles
use Rattle.regions.specs.Table.{Table, pointers_at, set_pointer}
use Rattle.regions.proofs.Tiles.Changes.{WritesObject, pointer_put}
use Rattle.regions.proofs.Words.Fields.{with_pointer}
use Rattle.satb_log.specs.Logs.{log_of}
use Rattle.mark_bitmap.specs.Tops.{Tops}
use Rattle.marker.specs.Views as views
use Rattle.marker.specs.Stands.{MarkerStands, CanFollow, IsKept}
use Rattle.marker.specs.Steps.{SameRoles, KeepsSnapshots}
use Rattle.marker.specs.declared.marker.Marker.{Marker}
use Rattle.step_core.specs.Stands.{CoreState, kept_of, heap_of, marking_of, RemembersFields, ShowsGraph, KeepsFrom, IsClearing, IsCore}
use Rattle.step_core.specs.Cycle.{LeavesRegions}
use Rattle.step_core.specs.Storing.{CanStore, HasNoted}
use Rattle.step_core.proofs.Cores.Sizes.{some_words}
use Rattle.graph_runs.specs.State.{HaveNoPairs}
use Rattle.graph_runs.proofs.Sound.{no_pairs_changed}
use Rattle.step_core.proofs.Cores.Bare.{object_bare}
use Rattle.step_core.proofs.Cores.Slots.{slots_set, object_stays}
use Rattle.step_core.proofs.Cores.Resting.{core_over, object_rests, rooted_known}
use Rattle.step_core.proofs.Mutating.Fields.{pointer_fields}
use Rattle.step_core.proofs.Cores.Remembering.{remembers_stored}
use Rattle.refinement.specs.Remembering.{field_word}
use Rattle.step_core.proofs.Mutating.Logging.{roles_trans, same_roles}
use Rattle.step_core.proofs.Mutating.Reading.{object_kept, pointers_there}
use Rattle.step_core.proofs.Mutating.Written.{SameKeeping, object_written, marking_same}
use Rattle.step_core.proofs.Mutating.Acting.{named_shows}
use Rattle.step_core.proofs.Cores.Layers.{follows_of, layers_writes, layers_changed, marker_writes, still_there}

-- the object that a root names
pub record Rooted (c : CoreState) (a : ℕ) : Type 0 where
  pub stored : Stored
  pub at : kept_of c a ≡ Some stored

pub rooted : (c : CoreState) (a : ℕ) → IsCore c → IsRoot (heap_of c) a → Rooted c a
rooted c a core r =
    let (x, at) = (followed core.footing.graph (heap_of c) core.rests.shows.shows).root r.place a r.is in
    record { stored = x; at = at }

pub is_kept : (c : CoreState) (a : ℕ) (x : Stored) → kept_of c a ≡ Some x → IsKept c.table c.marker a
unfolding kept_of
is_kept c a x e = record { object = x; is = e }

-- what the field held is kept
pub overwritten_kept : (c : CoreState) (a i b : ℕ) (w : Option ℕ) → IsCore c → Rooted c a → slice_get (pointers_at c.table a) i ≡ Some w
    → w ≡ Some b → IsKept c.table c.marker b
overwritten_kept c a i b w core r is e =
    let all = followed core.footing.graph (heap_of c) core.rests.shows.shows in
    let there : slice_get r.stored.pointers i ≡ Some (Some b) =
    ap (λ (ps : List (Option ℕ)). slice_get ps i) (sym (pointers_there c a r.stored r.at)) ∙ is ∙ ap Some e in
    let (x, at) = all.pointer a i b r.stored r.at there in
    is_kept c b x at

-- the core with the table and the marker changed
abbrev pub with_store : CoreState → Table → Marker → CoreState
with_store c t m = record c { table = t; marker = m }

-- the marks and tops that tell what is kept stay
pub same_keeping : (c : CoreState) (t : Table) (m : Marker) → SameRoles c.marker m → SameKeeping c (with_store c t m)
same_keeping c t m same = record { tams = ap (λ tams. Tops.previous tams) same.tams; previous = same.previous; roots = refl }

module _ (k : CoreState) (core : IsCore k) (a i : ℕ) (w : Option ℕ) (t : Table) (can : CanStore a i w k)
    (is : t ≡ set_pointer k.table a i w) (noted : HasNoted k (field_word a i) w) where
  pub r : Rooted k a
  r = rooted k a core can.rooted

  abbrev x : Stored
  x = r.stored

  pub at : kept_of k a ≡ Some x
  at = r.at

  writes : WritesObject k.table t a x (with_pointer x i w)
  writes = subst (λ (u : Table). WritesObject k.table u a x (with_pointer x i w)) (sym is)
      (pointer_put k.table a i w x (some_words k core) (object_kept k a x at))

  long : tiles.tile_size (tiles.Object (with_pointer x i w)) ≡ tiles.tile_size (tiles.Object x)
  long = ap (λ (n : ℕ). 2 + n + (length x.weaks + length x.held) + length x.values) (length-set x.pointers i w)

  module _ (m : Marker) (same : SameRoles k.marker m) where
    abbrev after : CoreState
    after = with_store k t m

    set_in : ObjectSet (heap_of k) (heap_of after) a x (with_pointer x i w)
    set_in = object_written k after a x (with_pointer x i w) writes refl at (same_keeping k t m same)

    -- the heap shows the graph with the field changed
    pub store_shows : (g : Graph) (y : Stored) (o : Object) (v : Option ℕ) → ShowsGraph g k → kept_of k a ≡ Some y
        → object_named g y.name ≡ Some o → IsShown (heap_of k) w v
        → ShowsGraph (with_changed g y.name (record o { pointers = slice_set o.pointers i v })) after
    store_shows g y o v s aty named shown = named_shows g k after a x (with_pointer x i w) y o
        (record o { pointers = slice_set o.pointers i v }) s (record { config = refl; next = refl }) set_in aty named
        (λ ps. AllZip-set (IsShown (heap_of k)) x.pointers o.pointers ps i w v shown) (λ ws. ws) (λ hs. hs) (λ e. e) (λ vs. vs)

    -- the old value was saved, so what is to be marked still will be
    pub store_keeps : (was : Option ℕ) → slice_get (pointers_at k.table a) i ≡ Some was
        → IsSaved (views.marking_of k.table k.marker) (views.marking_of k.table m) was
        → (s : Graph) → KeepsFrom s k → KeepsFrom s after
    store_keeps was there saved s f = record {
      earlier = f.earlier;
      marking = λ run. subst (λ (marks : Marking). KeepsSnapshot s (heap_of after) marks) (sym (marking_same k.table t m writes.size))
          (object_set (IsReachable s) (next_name s) core.footing.graph (heap_of k) (marking_of k) core.rests.shows.shows
          (f.marking (sym same.running ∙ run)) (heap_of after) (views.marking_of k.table m)
          a x (with_pointer x i w) i was w can.rooted can.held
          (ap (λ (ps : List (Option ℕ)). slice_get ps i) (sym (pointers_there k a x at)) ∙ there) set_in refl refl refl saved);
    }

  inside : i < length x.pointers
  inside = subst (λ (ps : List (Option ℕ)). i < length ps) (pointers_there k a x at) can.field

  -- the field's card is noted, so all stays remembered
  pub store_remembers : (m : Marker) (same : SameRoles k.marker m) → RemembersFields (with_store k t m)
  store_remembers m same = remembers_stored k (with_store k t m) a i w x (with_pointer x i w) refl writes.size refl refl (set_in m same)
      (pointer_fields x i w inside) noted core.remembers

  -- weak slots are as they were
  store_slots : (m : Marker) (same : SameRoles k.marker m) → IsClearing (with_store k t m)
  store_slots m same = slots_set k (with_store k t m) a x (with_pointer x i w) (set_in m same) core.slots refl (λ j b e. inl e)
      (object_stays k (with_store k t m) (λ b z e. still_there k.table t a b x (with_pointer x i w) z writes e))

  -- while marking doesn't run there is nothing to save
  pub idle_keeps : k.marker.running ≡ false → (s : Graph) → KeepsFrom s k → KeepsFrom s (with_store k t k.marker)
  idle_keeps idle s f = record { earlier = f.earlier; marking = λ run. absurd cc }

  -- the word that is stored, as the invariant's graph has it
  pub held_name : (v : Option ℕ) × IsShown (heap_of k) w v
  held_name = name w can.held
    where
      all : (b : ℕ) (z : Stored) → kept_of k b ≡ Some z → (v : Option ℕ) × IsShown (heap_of k) (Some b) v
      all b z e = (Some z.name, (z, e, refl))

      name : (u : Option ℕ) → IsHeld (heap_of k) u → (v : Option ℕ) × IsShown (heap_of k) u v
      name None h = (None, tt)
      name (Some b) (inl r) = let o = rooted k b core r in all b o.stored o.at
      name (Some b) (inr (inr p)) =
          let t = held_shown core.footing.graph (heap_of k) core.rests.shows.shows p.0 p.1 b p.4 in
          all b t.object t.at
      name (Some b) (inr (inl p)) =
          let (z, e) = (followed core.footing.graph (heap_of k) core.rests.shows.shows).pointer p.0 p.2.field b p.2.object p.2.at p.2.is in
          all b z e

  shape : length (with_pointer x i w).pointers ≡ length x.pointers
  shape = length-set x.pointers i w

  -- the graph that the invariant knows, with the field changed
  abbrev pub graph_after : Graph
  graph_after =
      let o = core.rests.shows.shows.objects a x at in
      with_changed core.footing.graph x.name (record o.object { pointers = slice_set o.object.pointers i held_name.0 })

  pub shows_after : (m : Marker) (same : SameRoles k.marker m) → ShowsGraph graph_after (with_store k t m)
  shows_after m same =
      let o = core.rests.shows.shows.objects a x at in
      store_shows m same core.footing.graph x o.object held_name.0 core.rests.shows at o.named held_name.1

  sound_after : IsSound graph_after
  sound_after =
      let o = core.rests.shows.shows.objects a x at in
      object_rests core.footing.graph k x.name o.object (record o.object { pointers = slice_set o.object.pointers i held_name.0 })
      (slice_set x.pointers i w) x.weaks (kept_held (kept_of k) x) core.rests.shows o.named
      (AllZip-set (IsShown (heap_of k)) x.pointers o.object.pointers o.pointers i w held_name.0 held_name.1) o.weaks o.held core.rests.sound

  pairs_after : HaveNoPairs graph_after
  pairs_after =
      let o = core.rests.shows.shows.objects a x at in
      no_pairs_changed core.footing.graph x.name (record o.object { pointers = slice_set o.object.pointers i held_name.0 })
      core.rests.pairs (object_bare core.footing.graph x.name o.object core.rests.pairs o.named)

  -- the core after a store while marking doesn't run
  pub idle_kept : k.marker.running ≡ false → IsCore (with_store k t k.marker)
  idle_kept idle = core_over k core t k.buffers k.marker k.cards k.sets k.roots refl
      (layers_writes k.config k.table t k.buffers k.marker a x (with_pointer x i w) writes core.layers (λ run. absurd cc) long shape)
      core.cards (store_remembers k.marker (same_roles k.marker)) (store_slots k.marker (same_roles k.marker)) (record {
        graph =
            graph_after;
        snapshot = graph_after;
      })
      (let shows = shows_after k.marker (same_roles k.marker) in let next = shows.next in record {
        shows = shows;
        keeps = record { earlier = omega (arith, next); marking = λ run. absurd cc };
        sound = sound_after;
        unreached = unreached_begins graph_after sound_after;
        pairs = pairs_after;
      })

  pub store_leaves : (m : Marker) → LeavesRegions k (with_store k t m)
  store_leaves m = record { config = refl; in_use = λ j n u. n (sym (writes.kinds j) ∙ u) }

  -- the core between the store and the taking of a log: the old value was saved
  module _ (m : Marker) (same : SameRoles k.marker m) (was : Option ℕ) (there : slice_get (pointers_at k.table a) i ≡ Some was)
      (saved : IsSaved (views.marking_of k.table k.marker) (views.marking_of k.table m) was) (st : MarkerStands k.table m) where
    pub mid_keeps : (s : Graph) → KeepsFrom s k → KeepsFrom s (with_store k t m)
    mid_keeps = store_keeps m same was there saved

    pub mid_follows : m.running ≡ true → CanFollow t m
    mid_follows =
        follows_of (with_store k t m) graph_after core.footing.snapshot (shows_after m same)
        (mid_keeps core.footing.snapshot core.rests.keeps)

    pub mid_stands : MarkerStands t m
    mid_stands =
        let tams = same.tams in
        marker_writes k.table t k.buffers m a x (with_pointer x i w) writes (rw tams core.layers.above_previous)
        (rw tams core.layers.above_next) st mid_follows long shape

    unreached_after : k.marker.running ≡ true → KeepsUnreached core.footing.snapshot graph_after
    unreached_after run =
        let o = core.rests.shows.shows.objects a x at in
        unreached_changed core.footing.snapshot core.footing.graph core.rests.unreached x.name o.object
        (record o.object { pointers = slice_set o.object.pointers i held_name.0 }) o.named
        (rooted_known core.footing.graph core.footing.snapshot k a x core.rests.shows (core.rests.keeps.marking run) can.rooted at)
        (no_change core.footing.snapshot o.object (record o.object { pointers = slice_set o.object.pointers i held_name.0 }) refl refl)

    -- a log of eight was taken, or none was full
    module _ (m2 : Marker) (then : SameRoles m m2) (snapshots : KeepsSnapshots t m m2) (st2 : MarkerStands t m2)
        (logs : length m2.logs ≡ length k.marker.logs) (room : (mutator : ℕ) → length (log_of m2.logs mutator) < 8) where
      same2 : SameRoles k.marker m2
      same2 = roles_trans k.marker m m2 same then

      pub last_keeps : m.running ≡ true → (s : Graph) → KeepsFrom s k → KeepsFrom s (with_store k t m2)
      unfolding kept_of
      last_keeps run s f = record {
        earlier = f.earlier;
        marking = λ run2. snapshots s graph_after k.roots (shows_after m same).shows ((mid_keeps s f).marking run);
      }

      pub last_kept : m.running ≡ true → IsCore (with_store k t m2)
      last_kept run =
          let keeps = last_keeps run core.footing.snapshot core.rests.keeps in
          core_over k core t k.buffers m2 k.cards k.sets k.roots refl
          (layers_changed k.config k.table t k.buffers k.marker m2 a x (with_pointer x i w) writes core.layers st2 same2.tams
          same2.room logs room long)
          core.cards (store_remembers m2 same2) (store_slots m2 same2) (record {
            graph = graph_after;
            snapshot =
                core.footing.snapshot;
          }) (record {
            shows = shows_after m2 same2;
            keeps = keeps;
            sound = sound_after;
            unreached = unreached_after (sym same.running ∙ run);
            pairs = pairs_after;
          })
