-- A new object with its fields in one call: the step that makes it, and those that fill it.
use Rattle.std.specs.Prelude.{◌≡◌, ◌≢◌, ◌<◌, ◌^◌, ℕ, zero, suc, List, length, slice_index, Option, Some, None}
use Rattle.heap_words.specs.declared.config.Config.{Config}
use Rattle.graph_runs.specs.State.{root_counts_of}
use Rattle.heap_steps.specs.Actors.{IsStep}
use Rattle.heap_steps.specs.Roots.{IsValue}
use Rattle.heap_steps.specs.declared.step.Action.TheVariants as actions
use Rattle.heap_steps.specs.declared.step.Reply.{Reply}
use Rattle.heap_steps.specs.declared.step.Reply.TheVariants as replies
use Rattle.heap_steps.specs.declared.step.Step.{Step}
use Rattle.step_core.specs.Stands.{CoreState}
use Rattle.step_core.specs.Words.{Takes}
use Rattle.heap_calls.specs.Numbers.{by, counts, no_heap, no_step, numbers, register, value}
use Rattle.heap_calls.specs.Steps.{StaysSame}
use Rattle.heap_calls.specs.declared.answer.Answer.{Answer}

-- so many steps lead from one core to another, one after another
abbrev pub StepsTo : CoreState → (ℕ → Step) → ℕ → CoreState → Type 0
StepsTo c step zero d = d ≡ c
StepsTo c step (suc n) d = (b : CoreState) × (reply : Reply) × (StepsTo c step n b × Takes b (step n) reply d)

-- an object is made of so many pointers and data words
abbrev pub making : ℕ → ℕ → List ℕ → List ℕ → Step
making m to from words = by m (actions.New (register to) (counts (length from) (length words)))

-- its pointers take what registers hold, or nil, and its data words take words
abbrev pub pointing : ℕ → ℕ → List ℕ → ℕ → Step
pointing m to from i = by m (actions.Put (register to) i (value (slice_index from i)))

abbrev pub wording : ℕ → ℕ → List ℕ → ℕ → Step
wording m to words i = by m (actions.Write (register to) i (slice_index words i))

-- a number of a field's source: nil's or a register's, and another one than that of the register which takes the object
pub record IsSource (config : Config) (to number : ℕ) : Type 0 where
  pub apart : number ≢ to
  pub there : IsValue (root_counts_of config) (value number)

-- the steps are some of the heap, and the register that takes the object is none of its sources
pub record AreFields (config : Config) (m to : ℕ) (from words : List ℕ) : Type 0 where
  pub few : length from < 2 ^ 32
  pub few_words : length words < 2 ^ 32
  pub makes : IsStep config (making m to from words)
  pub points : (i : ℕ) → i < length from → IsStep config (pointing m to from i)
  pub apart : (i : ℕ) → i < length from → slice_index from i ≢ to

-- the steps that fill the object lead from one core to the other: those of its pointers, and those of its data words
abbrev pub FillsFields : CoreState → ℕ → ℕ → List ℕ → List ℕ → CoreState → Type 0
FillsFields c m to from words d =
    (b : CoreState) × (StepsTo c (pointing m to from) (length from) b × StepsTo b (wording m to words) (length words) d)

-- where the object was made, the steps that fill it lead further
abbrev pub FillsIt : Reply → CoreState → ℕ → ℕ → List ℕ → List ℕ → CoreState → Type 0
FillsIt (replies.Named (Some name)) c m to from words d = FillsFields c m to from words d
FillsIt _ c m to from words d = d ≡ c

-- the object is made by a step of its own, whose reply is the answer, and is filled
pub record Fills (c : CoreState) (m to : ℕ) (from words : List ℕ) (answer : Answer) (after : Option CoreState) : Type 0 where
  pub reply : Reply
  pub tells : answer ≡ numbers reply
  pub made : CoreState
  pub makes : Takes c (making m to from words) reply made
  pub filled : CoreState
  pub fills : FillsIt reply made m to from words filled
  pub held : after ≡ Some filled

pub record FillsOrNot (c : CoreState) (m to : ℕ) (from words : List ℕ) (answer : Answer) (after : Option CoreState) : Type 0 where
  pub takes : AreFields c.config m to from words → Fills c m to from words answer after
  pub not : (AreFields c.config m to from words → ⊥) → StaysSame (Some c) no_step answer after

abbrev pub MakesFilled : Option CoreState → ℕ → ℕ → List ℕ → List ℕ → Answer → Option CoreState → Type 0
MakesFilled None m to from words answer after = StaysSame None no_heap answer after
MakesFilled (Some c) m to from words answer after = FillsOrNot c m to from words answer after
