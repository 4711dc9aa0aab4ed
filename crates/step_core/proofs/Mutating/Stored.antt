-- The write barrier, by the core's value c before the store: k is the core by its fields.
use Rattle.std.proofs.Common.{◌≡◌, ◌<◌, ◌∙◌, ℕ, true, false, Option, Some, None, length, refl, sym, ap, subst, slice_get, slice_set, ◌==◌}
use Rattle.heap_model.specs.Graph.{Graph, Object, object_named, with_changed}
use Rattle.heap_model.specs.Heap.{Stored, IsShown}
use Rattle.regions.specs.Table.{Table, pointers_at, set_pointer}
use Rattle.satb_log.specs.Logs.{log_of}
use Rattle.marker.specs.Stands.{MarkerStands, IsKept}
use Rattle.marker.specs.Steps.{SameRoles, Overwrites}
use Rattle.marker.specs.declared.marker.Marker.{Marker}
use Rattle.step_core.specs.Stands.{CoreState, kept_of, heap_of, ShowsGraph, KeepsFrom, IsCore}
use Rattle.step_core.specs.Cycle.{LeavesRegions}
use Rattle.step_core.specs.Mutators.{pointer_of}
use Rattle.step_core.specs.Storing.{CanStore, HasNoted, StoresWith}
use Rattle.refinement.specs.Remembering.{field_word}
use Rattle.step_core.proofs.Mutating.Logging.{Saves, TakesLog, idle_overwrites, log_taken, overwrites_full, overwrites_room}
use Rattle.step_core.proofs.Mutating.Logging.{roles_trans, same_roles, saved_room, taken_room}
use Rattle.step_core.proofs.Mutating.Reading.{get_or-get}
use Rattle.step_core.proofs.Mutating.Storing as storing
use Rattle.step_core.proofs.Mutating.Storing.{with_store, rooted, overwritten_kept}

-- a core, and what led to it
pub record Ends (P : CoreState → Type 0) (d : CoreState) : Type 0 where
  pub core : IsCore d
  pub does : P d

module _ (k c : CoreState) (e : k ≡ c) (core : IsCore k) (a i : ℕ) (w : Option ℕ) (can : CanStore a i w c) where
  can' : CanStore a i w k
  can' = subst (λ (d : CoreState). CanStore a i w d) (sym e) can

  -- what is overwritten is kept
  pub was_kept : (was : Option ℕ) → slice_get (pointers_at k.table a) i ≡ Some was → (b : ℕ) → was ≡ Some b → IsKept k.table k.marker b
  was_kept was is b there = overwritten_kept k a i b was core (rooted k a core can'.rooted) is there

  module _ (noted : HasNoted c (field_word a i) w) (t : Table) (is : t ≡ set_pointer k.table a i w) where
    noted' : HasNoted k (field_word a i) w
    noted' = subst (λ (d : CoreState). HasNoted d (field_word a i) w) (sym e) noted

    shows : (m : Marker) → SameRoles k.marker m → (g : Graph) (y : Stored) (o : Object) (v : Option ℕ) → ShowsGraph g c
        → kept_of c a ≡ Some y → object_named g y.name ≡ Some o → IsShown (heap_of c) w v
        → ShowsGraph (with_changed g y.name (record o { pointers = slice_set o.pointers i v })) (with_store k t m)
    shows m same =
        subst (λ (d : CoreState). (g : Graph) (y : Stored) (o : Object) (v : Option ℕ) → ShowsGraph g d → kept_of d a ≡ Some y
        → object_named g y.name ≡ Some o → IsShown (heap_of d) w v
        → ShowsGraph (with_changed g y.name (record o { pointers = slice_set o.pointers i v })) (with_store k t m)) e
        (storing.store_shows k core a i w t can' is noted' m same)

    stores : (mutator : ℕ) (m : Marker) → SameRoles k.marker m → ((s : Graph) → KeepsFrom s k → KeepsFrom s (with_store k t m))
        → Overwrites c.marker.running c.table mutator (pointer_of c a i) c.marker m
        → StoresWith c.cards mutator a i w c (with_store k t m)
    stores mutator m same keeps over = record {
      shows = shows m same;
      keeps = λ s f. keeps s (subst (λ (d : CoreState). KeepsFrom s d) (sym e) f);
      core = ap (λ (u : Table). with_store k u m) is
          ∙ ap (λ (d : CoreState). record d { table = set_pointer d.table a i w; marker = m }) e;
      marker = over;
      leaves = subst (λ (d : CoreState). LeavesRegions d (with_store k t m)) e (storing.store_leaves k core a i w t can' is noted' m);
    }

    -- while marking doesn't run
    module _ (idle : k.marker.running ≡ false) where
      pub idle_kept : IsCore (with_store k t k.marker)
      idle_kept = storing.idle_kept k core a i w t can' is noted' idle

      pub idle_stores : (mutator : ℕ) → StoresWith c.cards mutator a i w c (with_store k t k.marker)
      idle_stores mutator = stores mutator k.marker (same_roles k.marker) (storing.idle_keeps k core a i w t can' is noted' idle)
          (idle_overwrites k c e mutator (pointer_of c a i) idle)

    -- while it runs the old value was saved
    module _ (run : k.marker.running ≡ true) (mutator : ℕ) (was : Option ℕ) (there : slice_get (pointers_at k.table a) i ≡ Some was)
        (m : Marker) (s : Saves k.table mutator was k.marker m) where
      running : m.running ≡ true
      running = s.same.running ∙ run

      pub saved_stands : MarkerStands t m
      saved_stands = storing.mid_stands k core a i w t can' is noted' m s.same was there s.saved s.stands

      over : (m2 : Marker) → Overwrites c.marker.running c.table mutator was c.marker m2
          → Overwrites c.marker.running c.table mutator (pointer_of c a i) c.marker m2
      over m2 h = subst (λ (x : Option ℕ). Overwrites c.marker.running c.table mutator x c.marker m2)
          (sym (get_or-get (pointers_at k.table a) i None was there) ∙ ap (λ (d : CoreState). pointer_of d a i) e) h

      -- no log was full
      pub saved_ends : (length (log_of m.logs mutator) == 8) ≡ false → Ends (StoresWith c.cards mutator a i w c) (with_store k t m)
      saved_ends left =
          let r = saved_room k c e core mutator was m s left in
          record {
            core = storing.last_kept k core a i w t can' is noted' m s.same was there s.saved s.stands m (same_roles m)
                (λ s2 g roots shows keeps. keeps) saved_stands r.count r.room running;
            does = stores mutator m s.same (storing.mid_keeps k core a i w t can' is noted' m s.same was there s.saved s.stands)
                (over m (overwrites_room k c e mutator was run m m s.after left refl));
          }

      -- a log of eight was taken
      pub taken_ends : mutator < c.config.mutators → (length (log_of m.logs mutator) == 8) ≡ true → (m2 : Marker) → TakesLog t mutator m m2
          → Ends (StoresWith c.cards mutator a i w c) (with_store k t m2)
      taken_ends known full m2 l =
          let r = taken_room k c e core mutator was m s known m2 l.took.emptied in
          record {
            core = storing.last_kept k core a i w t can' is noted' m s.same was there s.saved s.stands m2 l.took.same l.snapshots l.stands
                r.count r.room running;
            does = stores mutator m2 (roles_trans k.marker m m2 s.same l.took.same)
                (storing.last_keeps k core a i w t can' is noted' m s.same was there s.saved s.stands m2 l.took.same l.snapshots l.stands
                r.count r.room running)
                (over m2 (overwrites_full k c e mutator was run m m2 s.after full (log_taken k.table t a i w mutator m m2 is l.took)));
          }
