-- What each part of a step keeps: k is the core by its fields, c the same by its value.
use Rattle.std.proofs.Common.{◌≡◌, ℕ, ◌+◌, ◌<◌, ◌⊎◌, Option, Some, None, List, length, get_or, inl, refl, sym, ◌∙◌, ap, subst, arith}
use Rattle.std.proofs.Common.{[], ◌∷◌}
use Rattle.std.specs.Prelude.{slice_get, slice_set, unwrap_or, IsSome, IfSome}
use Rattle.std.proofs.lemmas.List.{length-set}
use Rattle.heap_words.specs.declared.config.Config.{Config}
use Rattle.heap_words.specs.Configs.{registers_of}
use Rattle.root_table.proofs.Rows.{register_within}
use Rattle.std.specs.List.{AllZip}
use Rattle.heap_model.specs.Weak.{PairsChange}
use Rattle.heap_model.specs.Marking.{Marking, PairsSet}
use Rattle.heap_model.specs.Graph.{Graph, Object, RootCounts, object_named, with_changed}
use Rattle.heap_model.specs.Heap.{Heap, Stored, IsShown, IsRoot, IsHeld, ObjectSet}
use Rattle.regions.specs.Tiles as tiles
use Rattle.heap_model.proofs.Unreached.{unreached_root, unreached_written}
use Rattle.regions.specs.Table.{Table, object_at, pointers_at, weaks_at, values_at, set_value}
use Rattle.regions.proofs.Tiles.Changes.{WritesObject, value_put}
use Rattle.regions.proofs.Words.Values.{with_value}
use Rattle.graph_runs.specs.State.{root_at, with_root, root_places, register_place}
use Rattle.heap_steps.specs.declared.step.Action.TheVariants as actions
use Rattle.heap_steps.specs.declared.step.Reply.TheVariants as replies
use Rattle.heap_steps.specs.declared.step.Register.{Register}
use Rattle.step_core.specs.Stands.{root_counts_of, CoreState, kept_of, heap_of, RemembersFields, ShowsGraph, KeepsFrom, IsCore, IsWordOf}
use Rattle.step_core.specs.Stands.{IsRootWord, RootNames, Leads, name_in, name_of}
use Rattle.step_core.specs.Cycle.{LeavesRegions}
use Rattle.step_core.specs.Mutators.{with_root_word}
use Rattle.step_core.specs.Parts.{DoesAction, HoldsRegister, HoldsRoot, NamesAt}
use Rattle.step_core.specs.Answers.{Acts}
use Rattle.step_core.proofs.Cores.Sizes.{some_words}
use Rattle.graph_runs.proofs.Sound.{no_pairs_changed}
use Rattle.step_core.proofs.Cores.Bare.{object_bare}
use Rattle.step_core.proofs.Cores.Slots.{slots_same, slots_set, object_stays}
use Rattle.heap_model.specs.Clearing.{IsWeakShown, KeepsAt, kept_word, kept_held}
use Rattle.step_core.specs.Stands.{IsClearing, marking_of}
use Rattle.step_core.proofs.Cores.Resting.{core_over, root_rests, object_rests}
use Rattle.step_core.proofs.Cores.Layers.{layers_writes, follows_of, still_there}
use Rattle.step_core.proofs.Mutating.Written.{object_written, write_keeps, root_keeps}
use Rattle.step_core.proofs.Cores.Remembering.{remembers_on, written_fields}
use Rattle.step_core.proofs.Mutating.Reading.{root_shown, leads, root_word, root_rooted, object_kept}
use Rattle.step_core.proofs.Mutating.Reading.{pointers_there, field_held, led_object, word_object}
use Rattle.step_core.proofs.Mutating.Acting.{object_shows, root_shows, write_done, field_word, slot_word}

pub core_of : (k c : CoreState) → k ≡ c → IsCore k → IsCore c
core_of k c e core = subst (λ (d : CoreState). IsCore d) e core

-- it has as many globals, mutators and registers as steps may name
pub placed_in : (k c : CoreState) → k ≡ c → IsCore k → k.places ≡ root_counts_of c.config
placed_in k c e core = core.placed ∙ ap (λ (d : CoreState). root_counts_of d.config) e

-- the place of a register, by the places that the code has
pub register_at : (k c : CoreState) → k ≡ c → IsCore k → (m r : ℕ)
    → register_place k.places m r ≡ register_place (root_counts_of c.config) m r
register_at k c e core m r = ap (λ (p : RootCounts). register_place p m r) (placed_in k c e core)

pub register_there : (k : CoreState) → IsCore k → (m r : ℕ) → register_place k.places m r ≡ register_place (root_counts_of k.config) m r
register_there k core m r = ap (λ (p : RootCounts). register_place p m r) core.placed

pub registers_at : (k c : CoreState) → k ≡ c → IsCore k → k.places.registers ≡ registers_of c.config
registers_at k c e core = ap (λ (p : RootCounts). p.registers) (placed_in k c e core)

-- the graph has the register in the same place
pub register_shows : (c d : CoreState) (m r : ℕ) (w : Option ℕ)
    → ((g : Graph) (v : Option ℕ) → ShowsGraph g c → IsShown (heap_of c) w v
    → ShowsGraph (with_root g (register_place (root_counts_of c.config) m r) v) d)
    → (g : Graph) (v : Option ℕ) → ShowsGraph g c → IsShown (heap_of c) w v → ShowsGraph (with_root g (register_place g.places m r) v) d
register_shows c d m r w each g v s shown =
    subst (λ (p : RootCounts). ShowsGraph (with_root g (register_place p m r) v) d) (sym s.places) (each g v s shown)

-- a register's place is among the places
pub register_inside : (c : Config) (m r : ℕ) → m < c.mutators → r < registers_of c
    → register_place (root_counts_of c) m r < root_places (root_counts_of c)
register_inside c m r known inside = register_within (root_counts_of c) m r known inside

pub root_within : (k c : CoreState) (place : ℕ) → k ≡ c → IsCore k → place < root_places (root_counts_of c.config) → place < length k.roots
root_within k c place e core less =
    subst (λ (d : CoreState). place < length d.roots) (sym e) (let all = (core_of k c e core).places in omega (arith, less, all))

pub root_facts : (k c : CoreState) (place : ℕ) (w : Option ℕ) → k ≡ c → IsCore k → place < root_places (root_counts_of c.config)
    → w ≡ get_or k.roots place None → HoldsRoot c place w
root_facts k c place w e core less r =
    let core' = core_of k c e core in
    let all = core'.places in
    let within : place < length c.roots = omega (arith, less, all) in
    let is : w ≡ get_or c.roots place None = r ∙ ap (λ (d : CoreState). get_or d.roots place None) e in
    record {
      value = is;
      word = root_word c place w core' within is;
      rooted = root_rooted c place w within is;
      leads = leads c place w within is;
      shows = λ g s. (root_shown g c place w s within is).shown;
    }

-- the same of a register
pub register_facts : (k c : CoreState) (m : ℕ) (r : Register) (w : Option ℕ) → k ≡ c → IsCore k → m < c.config.mutators
    → r.number < registers_of c.config → w ≡ get_or k.roots (register_place k.places m r.number) None → HoldsRegister c m r w
register_facts k c m r w e core known inside is =
    let f = root_facts k c (register_place (root_counts_of c.config) m r.number) w e core (register_inside c.config m r.number known inside)
    (is ∙ ap (λ (place : ℕ). get_or k.roots place None) (register_at k c e core m r.number)) in
    record {
      value = f.value;
      word = f.word;
      rooted = f.rooted;
      leads = f.leads;
      shows = λ g s. subst (λ (p : RootCounts). IsShown (heap_of c) w (root_at g (register_place p m r.number))) (sym s.places)
          (f.shows g s);
    }

-- what a root holds may be stored
pub root_held : (h : Heap) (w : Option ℕ) → IsRootWord h w → IsHeld h w
root_held h None r = tt
root_held h (Some a) r = inl r

-- a root word is set
module _ (k c : CoreState) (place : ℕ) (w : Option ℕ) (e : k ≡ c) where
  pub root_after : (g : Graph) (v : Option ℕ) → ShowsGraph g c → IsShown (heap_of c) w v
      → ShowsGraph (with_root g place v) (with_root_word k place w)
  root_after = subst (λ (d : CoreState).
      (g : Graph) (v : Option ℕ) → ShowsGraph g d → IsShown (heap_of d) w v → ShowsGraph (with_root g place v) (with_root_word k place w)) e
      (λ g v s shown. root_shows g k place w v s shown)

  module _ (core : IsCore k) (held : IsHeld (heap_of c) w) where
    held' : IsHeld (heap_of k) w
    held' = subst (λ (d : CoreState). IsHeld (heap_of d) w) (sym e) held

    pub root_kept_from : (s : Graph) → KeepsFrom s c → KeepsFrom s (with_root_word k place w)
    root_kept_from s = subst (λ (d : CoreState). KeepsFrom s d → KeepsFrom s (with_root_word k place w)) e
        (root_keeps core.footing.graph s k place w _ core.rests.shows held' refl)

    root_remembers : RemembersFields (with_root_word k place w)
    unfolding kept_of
    root_remembers = core.remembers

    root_slots : IsClearing (with_root_word k place w)
    unfolding kept_of
    root_slots = slots_same k (with_root_word k place w) core.slots refl (λ a. refl) (λ b h. h)

    pub root_leaves : LeavesRegions c (with_root_word k place w)
    root_leaves = subst (λ (d : CoreState). LeavesRegions d (with_root_word k place w)) e (record { config = refl; in_use = λ n h. h })

    pub root_kept : IsWordOf (heap_of c) w → IsCore (with_root_word k place w)
    root_kept word =
        let word' : IsWordOf (heap_of k) w = subst (λ (d : CoreState). IsWordOf (heap_of d) w) (sym e) word in
        core_over k core k.table k.buffers k.marker k.cards k.sets (slice_set k.roots place w) (length-set k.roots place w)
        core.layers core.cards root_remembers root_slots
        (record { graph = with_root core.footing.graph place word'.name; snapshot = core.footing.snapshot }) (record {
          shows = root_shows core.footing.graph k place w word'.name core.rests.shows word'.shown;
          keeps = root_keeps core.footing.graph core.footing.snapshot k place w _ core.rests.shows held' refl core.rests.keeps;
          sound = root_rests core.footing.graph k place w word'.name core.rests.shows word'.shown core.rests.sound;
          unreached = unreached_root core.footing.snapshot core.footing.graph core.rests.unreached place word'.name;
          pairs = core.rests.pairs;
        })

pub named_object : (k c : CoreState) (a : ℕ) → k ≡ c → IsWordOf (heap_of c) (Some a) → IsSome (object_at k.table a)
named_object k c a e word = subst (λ (d : CoreState). IsSome (object_at d.table a)) (sym e) (word_object c a word)

pub name_is : (k c : CoreState) (a n : ℕ) → k ≡ c → IsSome (object_at k.table a)
    → IfSome (object_at k.table a) (λ s. n ≡ s.name) → Some n ≡ name_in c.table (Some a)
name_is k c a n e some is = subst (λ (d : CoreState). Some n ≡ name_in d.table (Some a)) e (go (object_at k.table a) some is)
  where
    go : (o : Option Stored) → IsSome o → IfSome o (λ s. n ≡ s.name) → Some n ≡ name_of o
    go None h q = cc
    go (Some s) h q = ap Some q

-- the object that a register names
pub object_led : (k c : CoreState) (place a : ℕ) → k ≡ c → IsCore k → Leads c place (Some a) → IsSome (object_at k.table a)
object_led k c place a e core l =
    subst (λ (d : CoreState). IsSome (object_at d.table a)) (sym e) (led_object c place a (core_of k c e core) l)

-- the same weak slots and held slots make the same pairs
pub same_pairs : (h : Heap) (m : Marking) (x y : Stored) → y.weaks ≡ x.weaks → y.held ≡ x.held → PairsSet h m x y
same_pairs h m x y weaks held = record {
  went = λ i k b z at p. inl (ap (λ l. slice_get l i) weaks ∙ p.0, ap (λ l. slice_get l i) held ∙ p.1);
  came = λ i k b z at p. inl (ap (λ l. slice_get l i) (sym weaks) ∙ p.0, ap (λ l. slice_get l i) (sym held) ∙ p.1);
}

pub no_change : (s : Graph) (o p : Object) → p.weaks ≡ o.weaks → p.held ≡ o.held → PairsChange s o p
no_change s o p weaks held = record {
  went = λ i k b e. inl (ap (λ l. slice_get l i) weaks ∙ e.0, ap (λ l. slice_get l i) held ∙ e.1);
  came = λ i k b e. inl (ap (λ l. slice_get l i) (sym weaks) ∙ e.0, ap (λ l. slice_get l i) (sym held) ∙ e.1);
}

-- and where there are no held slots there are no pairs
pub nothing_there : (vs : List (Option ℕ)) (i b : ℕ) → vs ≡ [] → slice_get vs i ≡ Some (Some b) → ⊥
nothing_there [] i b e at = cc
nothing_there (v ∷ vs) i b e at = cc

pub bare_pairs : (h : Heap) (m : Marking) (x y : Stored) → x.held ≡ [] → y.held ≡ [] → PairsSet h m x y
bare_pairs h m x y none none' = record {
  went = λ i k b z at p. absurd (nothing_there x.held i b none p.1);
  came = λ i k b z at p. absurd (nothing_there y.held i b none' p.1);
}

pub bare_change : (s : Graph) (o p : Object) → o.held ≡ [] → p.held ≡ [] → PairsChange s o p
bare_change s o p none none' = record {
  went = λ i k b e. absurd (nothing_there o.held i b none e.1);
  came = λ i k b e. absurd (nothing_there p.held i b none' e.1);
}

-- an object is written over by one with the same pointers, and the graph's object with it
pub written_kept : (k : CoreState) (core : IsCore k) (a : ℕ) (x y : Stored) (o p : Object) (t : Table) → kept_of k a ≡ Some x
    → WritesObject k.table t a x y → y.name ≡ x.name → y.pointers ≡ x.pointers → tiles.tile_size (tiles.Object y) ≡ tiles.tile_size
    (tiles.Object x) → object_named core.footing.graph x.name ≡ Some o → p.pointers ≡ o.pointers
    → AllZip (IsShown (heap_of k)) y.pointers p.pointers → AllZip (IsWeakShown (heap_of k)) y.weaks p.weaks
    → AllZip (IsShown (heap_of k)) (kept_held (kept_of k) y) p.held → PairsSet (heap_of k) (marking_of k) x y
    → PairsChange core.footing.snapshot o p → p.held ≡ [] → ShowsGraph (with_changed core.footing.graph x.name p) (record k { table = t })
    → RemembersFields (record k { table = t })
    → ((i b : ℕ) → slice_get y.weaks i ≡ Some (Some b) → (slice_get x.weaks i ≡ Some (Some b)) ⊎ KeepsAt (heap_of k) b)
    → IsCore (record k { table = t })
written_kept k core a x y o p t at writes name same long named stay pointers weaks held pairs change bare shows remembers slots =
    let set = object_written k (record k { table = t }) a x y writes name at (record { tams = refl; previous = refl; roots = refl }) in
    let lead = slots_set k (record k { table = t }) a x y set core.slots refl slots
    (object_stays k (record k { table = t }) (λ b z e. still_there k.table t a b x y z writes e)) in
    let keeps =
    write_keeps core.footing.graph core.footing.snapshot k t a x y core.rests.shows writes name at same pairs core.rests.keeps in
    core_over k core t k.buffers k.marker k.cards k.sets k.roots refl
    (layers_writes k.config k.table t k.buffers k.marker a x y writes core.layers
    (follows_of (record k { table = t }) _ core.footing.snapshot shows keeps) long
    (ap (λ (ps : List (Option ℕ)). length ps) same)) core.cards remembers lead
    (record { graph = with_changed core.footing.graph x.name p; snapshot = core.footing.snapshot }) (record {
      shows = shows;
      keeps = keeps;
      sound = object_rests core.footing.graph k x.name o p y.pointers y.weaks (kept_held (kept_of k) y) core.rests.shows named pointers
          weaks held core.rests.sound;
      unreached = unreached_written core.footing.snapshot core.footing.graph core.rests.unreached x.name o p named stay change;
      pairs = no_pairs_changed core.footing.graph x.name p core.rests.pairs bare;
    })

module _ (k c : CoreState) (e : k ≡ c) (core : IsCore k) (m : ℕ) (object : Register) (a i v : ℕ) (t : Table)
    (names : NamesAt c m object a) (within : i < length (values_at k.table a)) (is : t ≡ set_value k.table a i v) where
  l : Leads c (register_place (root_counts_of c.config) m object.number) (Some a)
  l = names.leads

  write_by : (g : Graph) → ShowsGraph g k → Acts g m (actions.Write object i v) replies.Done (record k { table = t })
  write_by g s = write_done g k s m object a
      (subst (λ (d : CoreState). Leads d (register_place (root_counts_of d.config) m object.number) (Some a)) (sym e) l) i v t within
      (some_words k core) is

  h : RootNames core.footing.graph k (register_place (root_counts_of k.config) m object.number) a
  h = subst (λ (d : CoreState). Leads d (register_place (root_counts_of d.config) m object.number) (Some a))
      (sym e) l core.footing.graph core.rests.shows

  writes : WritesObject k.table t a h.stored (with_value h.stored i v)
  writes = subst (λ (u : Table). WritesObject k.table u a h.stored (with_value h.stored i v)) (sym is)
      (value_put k.table a i v h.stored (some_words k core) (object_kept k a h.stored h.at))

  write_set : ObjectSet (heap_of k) (heap_of (record k { table = t })) a h.stored (with_value h.stored i v)
  write_set = object_written k (record k { table = t }) a h.stored (with_value h.stored i v) writes refl h.at
      (record { tams = refl; previous = refl; roots = refl })

  keeps_by : (s : Graph) → KeepsFrom s k → KeepsFrom s (record k { table = t })
  keeps_by s f = write_keeps core.footing.graph s k t a h.stored (with_value h.stored i v) core.rests.shows writes refl h.at refl
      (same_pairs (heap_of k) (marking_of k) h.stored (with_value h.stored i v) refl refl) f

  -- the step `write` is done
  pub write_does : DoesAction m (actions.Write object i v) replies.Done c (record k { table = t })
  write_does = record {
    acts = λ g s. write_by g (subst (λ (d : CoreState). ShowsGraph g d) (sym e) s);
    keeps = λ s f. keeps_by s (subst (λ (d : CoreState). KeepsFrom s d) (sym e) f);
    after = record {
      core = ap (λ (u : Table). record k { table = u }) is
          ∙ ap (λ (d : CoreState). record d { table = set_value d.table a i v; marker = k.marker }) e
          ∙ ap (λ (w : Option ℕ). record c { table = set_value c.table (unwrap_or w 0) i v; marker = k.marker }) (sym names.held);
      marker = ap (λ (d : CoreState). d.marker) e;
    };
    leaves = subst (λ (d : CoreState). LeavesRegions d (record k { table = t })) e
        (record { config = refl; in_use = λ j n u. n (sym (writes.kinds j) ∙ u) });
  }

  pub write_kept : IsCore (record k { table = t })
  write_kept =
      let d : CoreState = record k { table = t } in
      let p : Object = record h.object { values = slice_set h.object.values i v } in
      written_kept k core a h.stored (with_value h.stored i v) h.object p t h.at writes refl refl
      (ap (λ (n : ℕ). 2 + length h.stored.pointers + (length h.stored.weaks + length h.stored.held) + n) (length-set h.stored.values i v))
      h.named refl
      h.pointers h.weaks h.held (same_pairs (heap_of k) (marking_of k) h.stored (with_value h.stored i v) refl refl)
      (no_change core.footing.snapshot h.object p refl refl)
      (object_bare core.footing.graph h.stored.name h.object core.rests.pairs h.named)
      (object_shows core.footing.graph k d a h.stored (with_value h.stored i v) h.object p core.rests.shows
      (record { config = refl; next = refl }) write_set h.named h.pointers h.weaks h.held h.keyed
      (ap (λ (vs : List ℕ). slice_set vs i v) h.values))
      (remembers_on k d refl writes.size refl refl (written_fields (heap_of k) (heap_of d) a h.stored (with_value h.stored i v) write_set
      refl) core.remembers) (λ n b q. inl q)

-- the pointers and the data words of the object at an address, by the core's value
pub pointers_of : (k c : CoreState) (a : ℕ) → k ≡ c → pointers_at k.table a ≡ pointers_at c.table a
pointers_of k c a e = ap (λ (d : CoreState). pointers_at d.table a) e

pub values_of : (k c : CoreState) (a : ℕ) → k ≡ c → values_at k.table a ≡ values_at c.table a
values_of k c a e = ap (λ (d : CoreState). values_at d.table a) e

pub weaks_of : (k c : CoreState) (a : ℕ) → k ≡ c → weaks_at k.table a ≡ weaks_at c.table a
weaks_of k c a e = ap (λ (d : CoreState). weaks_at d.table a) e

pub slot_of : (k c : CoreState) (place a i : ℕ) (w : Option ℕ) → k ≡ c → IsCore k → Leads c place (Some a)
    → slice_get (weaks_at k.table a) i ≡ Some w → IsWordOf (heap_of c) (kept_word (kept_of c) w)
slot_of k c place a i w e core l is =
    slot_word c place a i w (core_of k c e core) l (ap (λ (ps : List (Option ℕ)). slice_get ps i) (sym (weaks_of k c a e)) ∙ is)

pub field_of : (k c : CoreState) (place a i : ℕ) (w : Option ℕ) → k ≡ c → IsCore k → Leads c place (Some a)
    → slice_get (pointers_at k.table a) i ≡ Some w → IsWordOf (heap_of c) w
field_of k c place a i w e core l is =
    field_word c place a i w (core_of k c e core) l (ap (λ (ps : List (Option ℕ)). slice_get ps i) (sym (pointers_of k c a e)) ∙ is)

-- what the field of an object that a register names holds, can be stored
pub field_can_be_stored : (k c : CoreState) (place a i : ℕ) (w : Option ℕ) → k ≡ c → IsCore k → Leads c place (Some a)
    → IsRoot (heap_of c) a → slice_get (pointers_at k.table a) i ≡ Some w → IsHeld (heap_of c) w
field_can_be_stored k c place a i w e core l root is =
    let h = l core.footing.graph (subst (λ (d : CoreState). ShowsGraph core.footing.graph d) e core.rests.shows) in
    field_held c a i h.stored w root h.at
    (ap (λ (ps : List (Option ℕ)). slice_get ps i) (sym (pointers_there c a h.stored h.at) ∙ sym (pointers_of k c a e)) ∙ is)

-- the core after a root word is set, by its value
pub root_set : (k c : CoreState) → k ≡ c → (place : ℕ) (w : Option ℕ) → with_root_word k place w ≡ with_root_word c place w
root_set k c e place w = ap (λ (d : CoreState). with_root_word d place w) e
