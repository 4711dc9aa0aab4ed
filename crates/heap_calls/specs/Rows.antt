-- Several fields in one call, each as by a step of its own: all of them or none.
use Rattle.std.specs.Prelude.{◌≡◌, ◌≢◌, ◌⊎◌, ◌+◌, ◌-◌, ◌<◌, ℕ, ⊤, Option, Some, None}
use Rattle.heap_words.specs.declared.config.Config.{Config}
use Rattle.heap_steps.specs.Actors.{IsStep}
use Rattle.heap_steps.specs.declared.step.Refusal.{Refusal}
use Rattle.heap_steps.specs.declared.step.Reply.TheVariants as replies
use Rattle.heap_steps.specs.declared.step.Step.{Step}
use Rattle.step_core.specs.Rows.{AreDone, HasPointers, getting_each, putting_each, writing_each}
use Rattle.step_core.specs.Stands.{CoreState}
use Rattle.step_core.specs.Words.{HasDataWords, Takes}
use Rattle.step_core.specs.declared.rows.Source.TheVariants as sources
use Rattle.heap_calls.specs.Numbers.{no_heap, no_step, refused, register, told, value}
use Rattle.heap_calls.specs.Steps.{StaysSame}
use Rattle.heap_calls.specs.declared.answer.Answer.{Answer}

-- What is done with so many fields of an object from one on: registers from one on take its pointers; its pointers take what registers
-- from one on hold, or all the same, nil or what a register holds; its data words all take one word
pub data Many : Type 0 where
  GetMany : (m to object field count : ℕ) → Many
  PutMany : (m object field from count : ℕ) → Many
  Fill : (m object field from count : ℕ) → Many
  FillWords : (m object field word count : ℕ) → Many

-- how many fields
abbrev pub count_of : Many → ℕ
count_of (GetMany m to object field count) = count
count_of (PutMany m object field from count) = count
count_of (Fill m object field from count) = count
count_of (FillWords m object field word count) = count

-- the step for the field of this number, counted from the first one; and the step for the last
abbrev pub step_of : Many → ℕ → Step
step_of (GetMany m to object field count) = getting_each m to (register object) field
step_of (PutMany m object field from count) = putting_each m (register object) field (sources.Row from)
step_of (Fill m object field from count) = putting_each m (register object) field (sources.One (value from))
step_of (FillWords m object field word count) = writing_each m (register object) field word

abbrev pub last_step : Many → Step
last_step x = step_of x (count_of x - 1)

-- the object's register takes none of its pointers, or the last one
abbrev pub IsApart : Many → Type 0
IsApart (GetMany m to object field count) = (k : ℕ) → k + 1 < count → object ≢ to + k
IsApart _ = ⊤

-- the steps are some of the heap, since the last one is, which names the highest register
pub record AreSteps (config : Config) (x : Many) : Type 0 where
  pub last : IsStep config (last_step x)
  pub apart : IsApart x

-- the object has all these fields
abbrev pub HasAll : CoreState → Many → Type 0
HasAll c (GetMany m to object field count) = HasPointers c m (register object) field count
HasAll c (PutMany m object field from count) = HasPointers c m (register object) field count
HasAll c (Fill m object field from count) = HasPointers c m (register object) field count
HasAll c (FillWords m object field word count) = HasDataWords c m (register object) field count

-- it has, and the steps lead from one heap to the other, one after another
pub record DoesAll (c : CoreState) (x : Many) (answer : Answer) (after : Option CoreState) : Type 0 where
  pub core : CoreState
  pub done : answer ≡ told 0 0 0
  pub has : HasAll c x
  pub led : AreDone c (step_of x) (count_of x) core
  pub held : after ≡ Some core

-- it hasn't; the answer is that of the step for the last of them, and the heap is as it was
pub record DoesNone (c : CoreState) (x : Many) (answer : Answer) (after : Option CoreState) : Type 0 where
  pub why : Refusal
  pub tells : answer ≡ refused why
  pub last : Takes c (last_step x) (replies.Refused why) c
  pub not : HasAll c x → ⊥
  pub same : after ≡ Some c

pub record DoesOrNot (c : CoreState) (x : Many) (answer : Answer) (after : Option CoreState) : Type 0 where
  pub takes : AreSteps c.config x → DoesAll c x answer after ⊎ DoesNone c x answer after
  pub not : (AreSteps c.config x → ⊥) → StaysSame (Some c) no_step answer after

abbrev pub DoesMany : Option CoreState → Many → Answer → Option CoreState → Type 0
DoesMany None x answer after = StaysSame None no_heap answer after
DoesMany (Some c) x answer after = DoesOrNot c x answer after
