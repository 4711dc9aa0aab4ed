-- Several data words in one call: all of them or none, each as by a step of its own.
use Rattle.std.specs.Prelude.{◌≡◌, ◌⊎◌, ℕ, List, length, Option, Some, None}
use Rattle.heap_steps.specs.declared.step.Refusal.{Refusal}
use Rattle.step_core.specs.Stands.{CoreState}
use Rattle.step_core.specs.Words.{AreRead, AreWritten, HasDataWords, IsUnread, IsUnwritten}
use Rattle.heap_calls.specs.Numbers.{no_heap, no_step, refused, register, told}
use Rattle.heap_calls.specs.Steps.{HasRegister, StaysSame}
use Rattle.heap_calls.specs.declared.answer.Answer.{Answer}

-- the object has so many words from one on, and each is what a step of its own would read
pub record ReadsAll (c : CoreState) (m object from : ℕ) (before after : List ℕ) (answer : Answer) : Type 0 where
  pub done : answer ≡ told 0 0 0
  pub has : HasDataWords c m (register object) from (length before)
  pub room : length after ≡ length before
  pub read : AreRead c m (register object) from after

-- it hasn't; the answer is that of a step for the last of them, and the buffer is as it was
pub record ReadsNone (c : CoreState) (m object from : ℕ) (before after : List ℕ) (answer : Answer) : Type 0 where
  pub why : Refusal
  pub tells : answer ≡ refused why
  pub unread : IsUnread c m (register object) from (length before) why
  pub not : HasDataWords c m (register object) from (length before) → ⊥
  pub same : after ≡ before

-- a mutator has the register, or there is no such step
pub record ReadsIn (m object from : ℕ) (before after : List ℕ) (c : CoreState) (answer : Answer) : Type 0 where
  pub takes : HasRegister c m object
      → ReadsAll c m object from before after answer ⊎ ReadsNone c m object from before after answer
  pub not : (HasRegister c m object → ⊥) → (answer ≡ no_step) × (after ≡ before)

-- what a call reads of a heap, which stays as it was
abbrev pub ReadsWords : Option CoreState → ℕ → ℕ → ℕ → List ℕ → List ℕ → Answer → Option CoreState → Type 0
ReadsWords None m object from before after answer left = StaysSame None no_heap answer left × (after ≡ before)
ReadsWords (Some c) m object from before after answer left = ReadsIn m object from before after c answer × (left ≡ Some c)

-- the object has so many words from one on, and steps that write them, one after another, lead to the heap after the call
pub record WritesAll (c : CoreState) (m object from : ℕ) (words : List ℕ) (answer : Answer) (after : Option CoreState) : Type 0 where
  pub core : CoreState
  pub done : answer ≡ told 0 0 0
  pub has : HasDataWords c m (register object) from (length words)
  pub written : AreWritten c m (register object) from words core
  pub held : after ≡ Some core

-- it hasn't; the answer is that of a step for the last of them, and the heap is as it was
pub record WritesNone (c : CoreState) (m object from : ℕ) (words : List ℕ) (answer : Answer) (after : Option CoreState) : Type 0 where
  pub why : Refusal
  pub tells : answer ≡ refused why
  pub unwritten : IsUnwritten c m (register object) from words why
  pub not : HasDataWords c m (register object) from (length words) → ⊥
  pub same : after ≡ Some c

pub record WritesIn (c : CoreState) (m object from : ℕ) (words : List ℕ) (answer : Answer) (after : Option CoreState) : Type 0 where
  pub takes : HasRegister c m object → WritesAll c m object from words answer after ⊎ WritesNone c m object from words answer after
  pub not : (HasRegister c m object → ⊥) → StaysSame (Some c) no_step answer after

abbrev pub WritesWords : Option CoreState → ℕ → ℕ → ℕ → List ℕ → Answer → Option CoreState → Type 0
WritesWords None m object from words answer after = StaysSame None no_heap answer after
WritesWords (Some c) m object from words answer after = WritesIn c m object from words answer after
