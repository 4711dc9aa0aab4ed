use Rattle.std.proofs.Common.{◌≡◌, Some, None, ap, refl, sym, ◌∙◌, Option, ℕ, slice_get, subst}
use Rattle.std.proofs.lemmas.Option.{slice_get-get_or}
use Rattle.heap_model.specs.Heap.{IsShown}
use Rattle.heap_model.specs.Clearing.{kept_word}
use Rattle.regions.specs.Table.{weaks_at}
use Rattle.step_core.specs.Stands.{kept_of, heap_of, IsWordOf, name_in}
use Rattle.step_core.proofs.Mutating.Acting.{get_weak_done, slot_named, slot_word}
use Rattle.step_core.proofs.Mutating.Done.{got_weak}
use Rattle.step_core.proofs.heap.Core.get_weak_at.Goals as goal
use Rattle.step_core.proofs.heap.Core.get_weak_at.Goals.{After-weak_word-value}

-- what the slot holds
held : (c : After-weak_word-value) → (w : Option ℕ) × (slice_get (weaks_at c.args.self.now.table c.args.at) c.args.slot ≡ Some w)
    × (c.weak_word-value.result ≡ kept_word (kept_of c.args.self.now) w)
held c = (
  _,
  slice_get-get_or (weaks_at c.args.self.now.table c.args.at) c.args.slot None c.requires.slot,
  c.weak_word-value.ensures,
)

word : (c : After-weak_word-value) → IsWordOf (heap_of c.args.self.now) c.weak_word-value.result
word c =
    let l = c.requires.names.leads in
    let (w, there, is) = held c in
    subst (λ (v : Option ℕ). IsWordOf (heap_of c.args.self.now) v) (sym is)
    (slot_word c.args.self.now _ c.args.at c.args.slot w c.law_remembers.ensures.core l there)

pub touch_named-requires-clause-word : goal.touch_named-requires-clause-word
touch_named-requires-clause-word c = word (goal.at.touch_named-requires-clause-word c).After-weak_word-value

pub returns : goal.returns
returns c =
    let l = c.requires.names.leads in
    let (w, there, is) = held (goal.at.returns c).After-weak_word-value in
    let touches = c.touch_named.ensures.touches in
    let name = c.touch_named.ensures.name ∙ ap (name_in c.args.self.now.table) is in
    record {
      acts = λ g s. get_weak_done g _ s c.args.mutator c.args.object _ l c.args.to c.args.slot w c.touch_named.result _ there
          name (λ h v shows shown.
          touches.shows h v shows (subst (λ (u : Option ℕ). IsShown (heap_of c.args.self.now) u v) (sym is) shown));
      keeps = λ s g shows u f. touches.keeps s g c.touch_named.result shows u
          (subst (λ (v : Option ℕ). IsShown (heap_of c.args.self.now) v c.touch_named.result) (sym is)
          (slot_named g _ shows c.args.mutator c.args.object _ l c.args.slot w c.touch_named.result c.touch_named.result there
          name refl)) f;
      after = got_weak _ _ c.args.mutator c.args.to c.args.object c.args.slot c.args.at c.weak_word-value.result
          c.requires.names.held c.weak_word-value.ensures touches.core touches.marker;
      leaves = touches.leaves;
    }
