-- Stores into an object whose address is known: what the steps `put` and `write` ensure.
use Rattle.std.proofs.Common.{◌≡◌, ◌<◌, ℕ, Option, Some, None, length, ◌∙◌, inl, inr, refl, sym, ap, arith, IfNone}
use Rattle.heap_words.specs.Configs.{registers_of}
use Rattle.graph_runs.specs.State.{register_place, root_counts_of}
use Rattle.step_core.specs.Steps.{Action, Counts, Op, Register, Reply}
use Rattle.heap_steps.specs.declared.step.Action.TheVariants as actions
use Rattle.heap_steps.specs.declared.step.Refusal.TheVariants as refusals
use Rattle.step_core.specs.Stands.{CoreState, IsCore, Leads}
use Rattle.step_core.specs.Mutators.{ActsOn, core_after, register_of}
use Rattle.step_core.specs.Making.{MakesObject}
use Rattle.step_core.specs.Parts.{NamesAt}
use Rattle.step_core.specs.Words.{AreRefused, Takes, making}
use Rattle.step_core.proofs.Cores.Acted.{acted_new}
use Rattle.step_core.proofs.Cores.Snapshots.{acts_cases}
use Rattle.step_core.proofs.Cores.Keeping.{register_inside}
use Rattle.step_core.proofs.Cores.Words.{put_op, refused_takes, write_op}
use Rattle.step_core.proofs.Mutating.Reading.{leads, root_rooted}
use Rattle.step_core.proofs.Mutating.Acting.{put_nil, write_nil}

abbrev new_op : ℕ → Register → Counts → Op
new_op m to counts = record { mutator = m; action = actions.New to counts }

pub new_takes : (c c' : CoreState) (m : ℕ) (to : Register) (counts : Counts) (r : Reply) → MakesObject m to counts 0 r c c'
    → Takes c (making m to counts) r c'
new_takes c c' m to counts r h = acted_new (new_op m to counts) to counts 0 r c c' (inl refl) refl h

-- ---- a step changes no root where it changes none if it is done
pub roots_stay : (c c' : CoreState) (m : ℕ) (a : Action) (r : Reply) → (core_after c m a).roots ≡ c.roots → ActsOn m a r c c'
    → c'.roots ≡ c.roots
roots_stay c c' m a r e h = elim (acts_cases m a r c c' h) [
  | inl refused ↦ ap (λ (d : CoreState). d.roots) refused.1.same
  | inr acted ↦ ap (λ (d : CoreState). d.roots) acted.core ∙ e
]

-- ---- what the register holds, and that each store is refused if that is nil
pub names_at : (c : CoreState) (m : ℕ) (object : Register) (a : ℕ) → IsCore c → m < c.config.mutators
    → object.number < registers_of c.config → register_of c m object ≡ Some a → NamesAt c m object a
names_at c m object a core known inside held =
    let all = core.places in
    let place : ℕ = register_place (root_counts_of c.config) m object.number in
    let within : place < length c.roots = omega (arith, register_inside c.config m object.number known inside, all) in
    record { held = held; rooted = root_rooted c place (Some a) within (sym held); leads = leads c place (Some a) within (sym held) }

pub all_refused : (c : CoreState) (m : ℕ) (object : Register)
    → Leads c (register_place (root_counts_of c.config) m object.number) None → AreRefused c m object
all_refused c m object l = record {
  put = λ i value. refused_takes (put_op m object i value) refusals.Nil c refl (λ g f. f) (λ g s. put_nil g c s m object i value l);
  written = λ i v. refused_takes (write_op m object i v) refusals.Nil c refl (λ g f. f) (λ g s. write_nil g c s m object i v l);
}

pub nil_refused : (c : CoreState) (m : ℕ) (object : Register) (w : Option ℕ)
    → Leads c (register_place (root_counts_of c.config) m object.number) w → IfNone w (AreRefused c m object)
nil_refused c m object None l = all_refused c m object l
nil_refused c m object (Some a) l = tt
