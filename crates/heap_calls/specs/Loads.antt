-- A pointer that is loaded, and a data word of the object that it leads to, in one call.
use Rattle.std.specs.Prelude.{◌≡◌, ℕ, Option, Some, None}
use Rattle.heap_steps.specs.Actors.{IsStep}
use Rattle.heap_steps.specs.declared.step.Action.TheVariants as actions
use Rattle.heap_steps.specs.declared.step.Reply.{Reply}
use Rattle.heap_steps.specs.declared.step.Reply.TheVariants as replies
use Rattle.heap_steps.specs.declared.step.Step.{Step}
use Rattle.step_core.specs.Stands.{CoreState}
use Rattle.step_core.specs.Words.{Takes}
use Rattle.heap_calls.specs.Numbers.{by, no_heap, no_step, numbers, register, told}
use Rattle.heap_calls.specs.Steps.{StaysSame}
use Rattle.heap_calls.specs.declared.answer.Answer.{Answer}

-- a register takes a pointer of the object that another one names; and a data word of what it names then is read
abbrev pub loading : ℕ → ℕ → ℕ → ℕ → Step
loading m to object field = by m (actions.Get (register to) (register object) field)

abbrev pub reading : ℕ → ℕ → ℕ → Step
reading m to word = by m (actions.Read (register to) word)

-- what is told of an object that was loaded, by the reply to who reads its data word: the word, or else the object's name
abbrev pub word_or_name : ℕ → Reply → Answer
word_or_name name (replies.Word word) = told 3 word 0
word_or_name name _ = told 2 name 0

-- where an object was loaded, a step of its own reads its data word; else the answer tells the load's reply, and no step follows
abbrev pub ReadsLoaded : Reply → CoreState → ℕ → ℕ → ℕ → Answer → CoreState → Type 0
ReadsLoaded (replies.Named (Some name)) c m to word answer d =
    (reply : Reply) × Takes c (reading m to word) reply d × (answer ≡ word_or_name name reply)
ReadsLoaded reply c m to word answer d = (answer ≡ numbers reply) × (d ≡ c)

-- a pointer is loaded by a step of its own, and the word is read
pub record Loads (c : CoreState) (m to object field word : ℕ) (answer : Answer) (after : Option CoreState) : Type 0 where
  pub reply : Reply
  pub loaded : CoreState
  pub loads : Takes c (loading m to object field) reply loaded
  pub core : CoreState
  pub reads : ReadsLoaded reply loaded m to word answer core
  pub held : after ≡ Some core

-- if the step that loads is one of the heap; else it is as it was
pub record LoadsOrNot (c : CoreState) (m to object field word : ℕ) (answer : Answer) (after : Option CoreState) : Type 0 where
  pub takes : IsStep c.config (loading m to object field) → Loads c m to object field word answer after
  pub not : (IsStep c.config (loading m to object field) → ⊥) → StaysSame (Some c) no_step answer after

abbrev pub GetsWord : Option CoreState → ℕ → ℕ → ℕ → ℕ → ℕ → Answer → Option CoreState → Type 0
GetsWord None m to object field word answer after = StaysSame None no_heap answer after
GetsWord (Some c) m to object field word answer after = LoadsOrNot c m to object field word answer after
