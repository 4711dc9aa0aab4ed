-- A store into a weak slot of an object that a root names: the field's card is noted, and marking isn't concerned.
use Rattle.std.proofs.Common.{◌≡◌, ℕ, ◌+◌, ◌<◌, List, [], ◌∷◌, Option, Some, length, map, refl, sym, ◌∙◌, ap, subst, arith, inl, inr, ◌⊎◌}
use Rattle.std.proofs.Common.{slice_set, slice_get, IsSome}
use Rattle.std.proofs.lemmas.List.{length-set}
use Rattle.heap_model.specs.Graph.{Graph, Object, object_named, held_by, with_changed}
use Rattle.std.specs.List.{AllZip}
use Rattle.heap_model.specs.Heap.{Stored, IsRoot, IsShown, ObjectSet, fields}
use Rattle.heap_model.proofs.Lists.{AllZip-set, get-set_cases}
use Rattle.heap_model.proofs.Shown.{weak_shown}
use Rattle.heap_model.specs.Clearing.{IsWeakShown, KeepsAt, kept_held, kept_word}
use Rattle.regions.specs.Table.{Table, object_at, weaks_at, fields_at, set_weak}
use Rattle.regions.specs.Shaped.{IsShaped}
use Rattle.regions.proofs.Tiles.Changes.{WritesObject, weak_put}
use Rattle.regions.proofs.Words.Fields.{with_weak}
use Rattle.cards.specs.Cards.{Cards}
use Rattle.refinement.specs.Remembering.{field_word}
use Rattle.step_core.specs.Stands.{CoreState, kept_of, heap_of, marking_of, RemembersFields, ShowsGraph, KeepsFrom, IsCore, IsWordOf}
use Rattle.step_core.specs.Mutators.{weak_field}
use Rattle.step_core.specs.Cycle.{LeavesRegions}
use Rattle.step_core.specs.Storing.{HasNoted, StoresWeak}
use Rattle.step_core.proofs.Cores.Sizes.{some_words}
use Rattle.step_core.proofs.Cores.Bare.{kept_bare}
use Rattle.step_core.proofs.Cores.Keeping.{written_kept, bare_pairs, bare_change}
use Rattle.step_core.proofs.Cores.Remembering.{remembers_stored}
use Rattle.step_core.proofs.Mutating.Fields.{weak_fields, fields_count}
use Rattle.step_core.proofs.Mutating.Reading.{shown_there, object_kept, pointers_there, weaks_there}
use Rattle.step_core.proofs.Mutating.Written.{object_written, write_keeps}
use Rattle.step_core.proofs.Mutating.Acting.{named_shows}
use Rattle.step_core.proofs.Mutating.Noting.{keeps_noted, kept_noted, shown_noted, shows_noted}
use Rattle.step_core.proofs.Mutating.Storing.{Rooted, rooted}

-- a root names an object
pub rooted_object : (k c : CoreState) (a : ℕ) → k ≡ c → IsCore k → IsRoot (heap_of c) a → IsSome (object_at k.table a)
rooted_object k c a e core root =
    let r = rooted k a core (subst (λ (d : CoreState). IsRoot (heap_of d) a) (sym e) root) in
    let is = object_kept k a r.stored r.at in rw is refl

-- a weak slot counts among the fields, behind the pointers
pub slot_within : (c : CoreState) (a i : ℕ) → i < length (weaks_at c.table a) → weak_field c a i < length (fields_at c.table a)
slot_within c a i within = let count = fields_count c.table a in omega (arith, count, within)

module _ (k : CoreState) (core : IsCore k) (a i : ℕ) (w : Option ℕ) (t : Table) (root : IsRoot (heap_of k) a)
    (within : i < length (weaks_at k.table a)) (word : IsWordOf (heap_of k) w)
    (noted : HasNoted k (field_word a (weak_field k a i)) w) (shape : IsShaped k.table) (is : t ≡ set_weak k.table a i w) where
  r : Rooted k a
  r = rooted k a core root

  abbrev x : Stored
  x = r.stored

  abbrev after : CoreState
  after = record k { table = t }

  -- it has no held slots
  none : x.held ≡ []
  none = kept_bare k core a x r.at

  none_shown : (ws vs : List (Option ℕ)) → AllZip (IsShown (heap_of k)) (held_by ws x.held) vs → vs ≡ []
  none_shown ws vs z = nothing vs (subst (λ hs. AllZip (IsShown (heap_of k)) (held_by ws hs) vs) none z)
    where
      nothing : (vs : List (Option ℕ)) → AllZip (IsShown (heap_of k)) [] vs → vs ≡ []
      nothing [] z = refl
      nothing (v ∷ vs) z = absurd z

  held_by_slots : (vs : List (Option ℕ)) → AllZip (IsShown (heap_of k)) (kept_held (kept_of k) x) vs
      → AllZip (IsShown (heap_of k)) (kept_held (kept_of k) (with_weak x i w)) vs
  held_by_slots vs z =
      subst (λ us. AllZip (IsShown (heap_of k)) (held_by (map (kept_word (kept_of k)) (slice_set x.weaks i w)) x.held) us)
      (sym (none_shown (map (kept_word (kept_of k)) x.weaks) vs z))
      (subst (λ hs. AllZip (IsShown (heap_of k)) (held_by (map (kept_word (kept_of k)) (slice_set x.weaks i w)) hs) []) (sym none) tt)

  keyed_by_slots : held_by (slice_set x.weaks i w) x.held ≡ x.held
  keyed_by_slots = ap (held_by (slice_set x.weaks i w)) none ∙ sym none

  writes : WritesObject k.table t a x (with_weak x i w)
  writes = subst (λ (u : Table). WritesObject k.table u a x (with_weak x i w)) (sym is)
      (weak_put k.table a i w x (some_words k core) (object_kept k a x r.at))

  set_in : ObjectSet (heap_of k) (heap_of after) a x (with_weak x i w)
  set_in = object_written k after a x (with_weak x i w) writes refl r.at (record { tams = refl; previous = refl; roots = refl })

  -- the heap shows the graph with the slot changed
  shows_by : (g : Graph) (y : Stored) (o : Object) (v : Option ℕ) → ShowsGraph g k → kept_of k a ≡ Some y
      → object_named g y.name ≡ Some o → IsShown (heap_of k) w v
      → ShowsGraph (with_changed g y.name (record o { weaks = slice_set o.weaks i v })) after
  shows_by g y o v s aty named shown = named_shows g k after a x (with_weak x i w) y o (record o { weaks = slice_set o.weaks i v }) s
      (record { config = refl; next = refl }) set_in aty named (λ ps. ps)
      (λ ws. AllZip-set (IsWeakShown (heap_of k)) x.weaks o.weaks ws i w v (weak_shown (heap_of k) w v shown))
      (λ hs. held_by_slots o.held hs) (λ e. keyed_by_slots) (λ vs. vs)

  keeps_by : (s : Graph) → KeepsFrom s k → KeepsFrom s after
  keeps_by s f = write_keeps core.footing.graph s k t a x (with_weak x i w) core.rests.shows writes refl r.at refl
      (bare_pairs (heap_of k) (marking_of k) x (with_weak x i w) none none) f

  leaves_by : LeavesRegions k after
  leaves_by = record { config = refl; in_use = λ j n u. n (sym (writes.kinds j) ∙ u) }

  remembers_by : RemembersFields after
  remembers_by =
      let field : weak_field k a i ≡ length x.pointers + i = ap (λ (ps : List (Option ℕ)). length ps + i) (pointers_there k a x r.at) in
      remembers_stored k after a (weak_field k a i) w x (with_weak x i w) refl writes.size refl refl set_in
      (weak_fields x i w (subst (λ (ws : List (Option ℕ)). i < length ws) (weaks_there k a x r.at) within)
      ∙ ap (λ (n : ℕ). slice_set (fields x) n w) (sym field)) noted core.remembers

  -- the slot leads to a kept object, and the others are as they were
  slots_by : (j b : ℕ) → slice_get (slice_set x.weaks i w) j ≡ Some (Some b) → (slice_get x.weaks j ≡ Some (Some b)) ⊎ KeepsAt (heap_of k) b
  slots_by j b e = elim (get-set_cases x.weaks i j w (Some b) e) [
    | inl q ↦ inr (let s = shown_there (heap_of k) b word.name (subst (λ (u : Option ℕ). IsShown (heap_of k) u word.name)
        (sym q) word.shown) in
        record { object = s.0; at = s.1 })
    | inr q ↦ inl q
  ]

  kept_by_store : IsCore after
  kept_by_store =
      let o = core.rests.shows.shows.objects a x r.at in
      written_kept k core a x (with_weak x i w) o.object (record o.object { weaks = slice_set o.object.weaks i word.name }) t r.at writes
      refl refl (ap (λ (n : ℕ). 2 + length x.pointers + (n + length x.held) + length x.values) (length-set x.weaks i w))
      o.named refl o.pointers
      (AllZip-set (IsWeakShown (heap_of k)) x.weaks o.object.weaks o.weaks i w word.name (weak_shown (heap_of k) w word.name word.shown))
      (held_by_slots o.object.held o.held) (bare_pairs (heap_of k) (marking_of k) x (with_weak x i w) none none)
      (let bare = none_shown (map (kept_word (kept_of k)) x.weaks) o.object.held o.held in
      bare_change core.footing.snapshot o.object (record o.object { weaks = slice_set o.object.weaks i word.name }) bare bare)
      (none_shown (map (kept_word (kept_of k)) x.weaks) o.object.held o.held)
      (shows_by core.footing.graph x o.object word.name core.rests.shows r.at o.named word.shown) remembers_by slots_by

-- the same by the core's value c: k is the core by its fields
module _ (k c : CoreState) (e : k ≡ c) (core : IsCore k) (a i : ℕ) (w : Option ℕ) (root : IsRoot (heap_of c) a)
    (within : i < length (weaks_at c.table a)) (word : IsWordOf (heap_of c) w) (noted : HasNoted c (field_word a (weak_field c a i)) w)
    (shape : IsShaped k.table) (t : Table) (is : t ≡ set_weak k.table a i w) where
  root' : IsRoot (heap_of k) a
  root' = subst (λ (d : CoreState). IsRoot (heap_of d) a) (sym e) root

  within' : i < length (weaks_at k.table a)
  within' = subst (λ (d : CoreState). i < length (weaks_at d.table a)) (sym e) within

  word' : IsWordOf (heap_of k) w
  word' = subst (λ (d : CoreState). IsWordOf (heap_of d) w) (sym e) word

  noted' : HasNoted k (field_word a (weak_field k a i)) w
  noted' = subst (λ (d : CoreState). HasNoted d (field_word a (weak_field d a i)) w) (sym e) noted

  pub weak_kept : IsCore (record k { table = t })
  weak_kept = kept_by_store k core a i w t root' within' word' noted' shape is

  pub weak_stores : StoresWeak c.cards a i w c (record k { table = t })
  weak_stores = record {
    shows = subst (λ (d : CoreState). (g : Graph) (y : Stored) (o : Object) (v : Option ℕ) → ShowsGraph g d → kept_of d a ≡ Some y
        → object_named g y.name ≡ Some o → IsShown (heap_of d) w v
        → ShowsGraph (with_changed g y.name (record o { weaks = slice_set o.weaks i v })) (record k { table = t })) e
        (shows_by k core a i w t root' within' word' noted' shape is);
    keeps = λ s f. keeps_by k core a i w t root' within' word' noted' shape is s (subst (λ (d : CoreState). KeepsFrom s d) (sym e) f);
    after = ap (λ (u : Table). record k { table = u }) is ∙ ap (λ (d : CoreState). record d { table = set_weak d.table a i w }) e;
    leaves = subst (λ (d : CoreState). LeavesRegions d (record k { table = t })) e
        (leaves_by k core a i w t root' within' word' noted' shape is);
  }

-- with the card noted before
pub noted_weak : (c c1 c' : CoreState) (a i : ℕ) (w : Option ℕ) (cards : Cards) → c1 ≡ record c { cards = c1.cards } → c1.cards ≡ cards
    → StoresWeak c1.cards a i w c1 c' → StoresWeak cards a i w c c'
noted_weak c c1 c' a i w cards same is st =
    let leaves : LeavesRegions (record c { cards = c1.cards }) c' = subst (λ (d : CoreState). LeavesRegions d c') same st.leaves in
    record {
      shows = λ g x o v s at named shown. st.shows g x o v (shows_noted c c1 g same s) (kept_noted c c1 a same ∙ at) named
          (shown_noted c c1 w v same shown);
      keeps = λ s f. st.keeps s (keeps_noted c c1 s same f);
      after = st.after ∙ ap (λ (d : CoreState). record d { table = set_weak d.table a i w; cards = c1.cards }) same
          ∙ ap (λ (cs : Cards). record c { table = set_weak c.table a i w; cards = cs }) is;
      leaves = record { config = leaves.config; in_use = leaves.in_use };
    }
