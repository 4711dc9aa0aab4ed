-- What a register names once an object is made, and that a store leaves the object's counts.
use Rattle.std.proofs.Common.{◌≡◌, ◌<◌, ◌⊎◌, ◌∙◌, ℕ, Option, Some, None, List, length, refl, sym, ap, subst, arith}
use Rattle.std.specs.Prelude.{slice_index_or, slice_set}
use Rattle.std.proofs.lemmas.List.{length-replicate, length-set, get_or-set_same}
use Rattle.heap_words.specs.Configs.{registers_of}
use Rattle.heap_model.specs.Heap.{Stored}
use Rattle.regions.specs.Table.{Table, new_object, object_at, object_pointers, object_values, object_weaks}
use Rattle.regions.specs.Table.{pointers_at, values_at, weaks_at}
use Rattle.regions.specs.Table.{set_pointer, set_value}
use Rattle.regions.proofs.Tiles.Changes.{pointer_put, value_put}
use Rattle.regions.proofs.Words.Access.{has_pointer}
use Rattle.regions.proofs.Words.Fields.{with_pointer}
use Rattle.regions.proofs.Words.Values.{has_value, with_value}
use Rattle.alloc_buffers.specs.Placement.{Buffers}
use Rattle.graph_runs.specs.State.{register_place, root_counts_of}
use Rattle.step_core.specs.Steps.{Action, Counts, Register, Reply}
use Rattle.heap_steps.specs.declared.step.Action.TheVariants as actions
use Rattle.heap_steps.specs.declared.step.Reply.TheVariants as replies
use Rattle.step_core.specs.Stands.{CoreState, IsCore}
use Rattle.step_core.specs.Making.{HasMade, NamesObject}
use Rattle.step_core.specs.Mutators.{weaks_made}
use Rattle.step_core.proofs.Cores.Acted.{by_new}
use Rattle.step_core.proofs.Cores.Keeping.{register_inside}
use Rattle.step_core.proofs.Mutating.Creating.{with_new}

pointers_are : (t : Table) (a : ℕ) (s : Stored) → object_at t a ≡ Some s → pointers_at t a ≡ s.pointers
unfolding pointers_at
pointers_are t a s e = ap object_pointers e

weaks_are : (t : Table) (a : ℕ) (s : Stored) → object_at t a ≡ Some s → weaks_at t a ≡ s.weaks
unfolding weaks_at
weaks_are t a s e = ap object_weaks e

values_are : (t : Table) (a : ℕ) (s : Stored) → object_at t a ≡ Some s → values_at t a ≡ s.values
unfolding values_at
values_are t a s e = ap object_values e

-- a register holds what it took
pub register_taken : (k : CoreState) (m : ℕ) (to : Register) (a : ℕ) → IsCore k → m < k.config.mutators → to.number < registers_of k.config
    → slice_index_or (slice_set k.roots (register_place (root_counts_of k.config) m to.number) (Some a))
    (register_place (root_counts_of k.config) m to.number) None ≡ Some a
register_taken k m to a core known inside =
    let place : ℕ = register_place (root_counts_of k.config) m to.number in
    let all = core.places in
    get_or-set_same k.roots place (Some a) None (omega (arith, register_inside k.config m to.number known inside, all))

-- the register names the new object
pub made_named : (k : CoreState) (m : ℕ) (to : Register) (t : Table) (b : Buffers) (a name p weak d : ℕ) → IsCore k
    → m < k.config.mutators → to.number < registers_of k.config → object_at t a ≡ Some (new_object name p weak d)
    → NamesObject (with_new k t b (register_place (root_counts_of k.config) m to.number) a) m to p weak d
made_named k m to t b a name p weak d core known inside is = record {
  at = a;
  held = register_taken k m to a core known inside;
  pointers = ap (λ (ps : List (Option ℕ)). length ps) (pointers_are t a (new_object name p weak d) is)
      ∙ length-replicate {A = Option ℕ} p None;
  weaks = ap (λ (ws : List (Option ℕ)). length ws) (weaks_are t a (new_object name p weak d) is)
      ∙ length-replicate {A = Option ℕ} weak None;
  values = ap (λ (vs : List ℕ). length vs) (values_are t a (new_object name p weak d) is) ∙ length-replicate {A = ℕ} d 0;
}

-- an action that makes a plain object says nothing of weak slots
made_plain : (m : ℕ) (to : Register) (counts : Counts) (r : Reply) (c : CoreState)
    → HasMade m (actions.NewWeak to counts 0) r c → HasMade m (actions.New to counts) r c
made_plain m to counts (replies.Named name) c h = h
made_plain m to counts _ c h = tt

pub made_as : (m : ℕ) (a : Action) (to : Register) (counts : Counts) (weaks : ℕ) (r : Reply) (c : CoreState)
    → (a ≡ actions.New to counts) ⊎ ((w : ℕ) × (a ≡ actions.NewWeak to counts w)) → weaks ≡ weaks_made a
    → HasMade m (actions.NewWeak to counts weaks) r c → HasMade m a r c
made_as m a to counts weaks r c is many = by_new (λ b. HasMade m b r c) a to counts weaks is many (made_plain m to counts r c)

-- ---- an object has as many pointers, weak slots and data words as before
pub record SameCounts (t t' : Table) (a : ℕ) : Type 0 where
  pub pointers : length (pointers_at t' a) ≡ length (pointers_at t a)
  pub weaks : length (weaks_at t' a) ≡ length (weaks_at t a)
  pub values : length (values_at t' a) ≡ length (values_at t a)

same_counts : (t t' : Table) (a : ℕ) (s s' : Stored) → object_at t a ≡ Some s → object_at t' a ≡ Some s'
    → length s'.pointers ≡ length s.pointers → s'.weaks ≡ s.weaks → length s'.values ≡ length s.values → SameCounts t t' a
same_counts t t' a s s' was is ps ws vs = record {
  pointers = ap (λ (l : List (Option ℕ)). length l) (pointers_are t' a s' is) ∙ ps
      ∙ sym (ap (λ (l : List (Option ℕ)). length l) (pointers_are t a s was));
  weaks = ap (λ (l : List (Option ℕ)). length l) (weaks_are t' a s' is ∙ ws ∙ sym (weaks_are t a s was));
  values = ap (λ (l : List ℕ). length l) (values_are t' a s' is) ∙ vs ∙ sym (ap (λ (l : List ℕ). length l) (values_are t a s was));
}

pub put_counts : (t t' : Table) (a i : ℕ) (w : Option ℕ) → 0 < t.words_per_region → i < length (pointers_at t a)
    → t' ≡ set_pointer t a i w → SameCounts t t' a
put_counts t t' a i w positive h e =
    let p = has_pointer t a i h in
    let put = pointer_put t a i w p.object positive p.object_is in
    subst (λ (u : Table). SameCounts t u a) (sym e)
    (same_counts t (set_pointer t a i w) a p.object (with_pointer p.object i w) put.was put.is (length-set p.object.pointers i w) refl refl)

pub write_counts : (t t' : Table) (a i v : ℕ) → 0 < t.words_per_region → i < length (values_at t a)
    → t' ≡ set_value t a i v → SameCounts t t' a
write_counts t t' a i v positive h e =
    let p = has_value t a i h in
    let put = value_put t a i v p.object positive p.object_is in
    subst (λ (u : Table). SameCounts t u a) (sym e)
    (same_counts t (set_value t a i v) a p.object (with_value p.object i v) put.was put.is refl refl (length-set p.object.values i v))
