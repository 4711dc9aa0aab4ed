-- An object that is asked for by the policy, and filled in the same call.
use Rattle.std.specs.Prelude.{◌≡◌, ℕ, List, length, Option, Some, None}
use Rattle.heap_steps.specs.declared.step.Event.{Event}
use Rattle.step_core.specs.Stands.{CoreState}
use Rattle.heap_calls.specs.Filled.{AreFields, FillsIt, StepsTo}
use Rattle.heap_calls.specs.Numbers.{no_heap, no_step}
use Rattle.g1heap_c.specs.Policies.{AnswersMake, asked, nil_steps, nilling}
use Rattle.heap_calls.specs.Steps.{StaysSame}
use Rattle.heap_calls.specs.declared.answer.Answer.{Answer}

-- an object is asked for, with all that the policy promises, and is filled by steps of their own if it was made; where it is refused as
-- Full and the number is set, a step more makes the register nil that was to take it
pub record AsksToFill {W : Type 0} (sees : W → Event → W → Type 0) (number : ℕ) (c : CoreState) (x : W) (m to : ℕ) (from words : List ℕ)
    (answer : Answer) (after : Option CoreState) (x' : W) : Type 0 where
  pub made : CoreState
  pub asks : AnswersMake sees c x (asked m to (length from) 0 (length words)) answer (Some made) x'
  pub filled : CoreState
  pub fills : FillsIt asks.reply made m to from words filled
  pub last : CoreState
  pub nils : StepsTo filled (nilling m to) (nil_steps number asks.reply) last
  pub held : after ≡ Some last

-- if the steps are some of the heap; else it is as it was, and the watch sees nothing
pub record AsksToFillOrNot {W : Type 0} (sees : W → Event → W → Type 0) (number : ℕ) (c : CoreState) (x : W) (m to : ℕ)
    (from words : List ℕ) (answer : Answer) (after : Option CoreState) (x' : W) : Type 0 where
  pub asks : AreFields c.config m to from words → AsksToFill sees number c x m to from words answer after x'
  pub not : (AreFields c.config m to from words → ⊥) → StaysSame (Some c) no_step answer after × (x' ≡ x)

abbrev pub AsksFilled : {W : Type 0} (sees : W → Event → W → Type 0) → ℕ → Option CoreState → W → ℕ → ℕ → List ℕ → List ℕ → Answer
    → Option CoreState → W → Type 0
AsksFilled sees number None x m to from words answer after x' = StaysSame None no_heap answer after × (x' ≡ x)
AsksFilled sees number (Some c) x m to from words answer after x' = AsksToFillOrNot sees number c x m to from words answer after x'
