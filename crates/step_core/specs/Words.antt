-- Several fields of an object at once: each as a step of its own.
use Rattle.std.specs.Prelude.{◌≡◌, ◌↔◌, ◌+◌, ◌-◌, ◌<◌, ◌≤◌, ℕ, suc, List, [], ◌∷◌, length, slice_index, Option, Some}
use Rattle.regions.specs.Table.{values_at}
use Rattle.graph_runs.specs.State.{State}
use Rattle.step_core.specs.Steps.{Counts, Refusal, Register, Reply, Step}
use Rattle.heap_steps.specs.declared.step.Action.TheVariants as actions
use Rattle.heap_steps.specs.declared.step.Step.TheVariants as steps
use Rattle.heap_steps.specs.declared.step.Reply.TheVariants as replies
use Rattle.heap_steps.specs.declared.step.Refusal.TheVariants as refusals
use Rattle.step_core.specs.Stands.{CoreState, Stands}
use Rattle.step_core.specs.Answers.{Follows, IsFullStep}
use Rattle.step_core.specs.Reclaimed.{IsReclaimed}
use Rattle.step_core.specs.Cycle.{Does, MayReclaim}
use Rattle.step_core.specs.Mutators.{register_of}

-- what `Core::step` promises of a step from one core to another
pub record Takes (c : CoreState) (step : Step) (reply : Reply) (c' : CoreState) : Type 0 where
  pub follows : (s : State) → Stands s c → Follows s step reply c'
  pub does : Does step reply c c'
  pub reclaims : (k : ℕ) → IsReclaimed c.table c'.table k → MayReclaim step c k
  pub full : (s : State) → Stands s c → (reply ≡ replies.Refused refusals.Full) ↔ IsFullStep s.graph step c

-- a mutator reads a data word of the object that a register names, or writes one
abbrev pub reading : ℕ → Register → ℕ → Step
reading m object field = steps.Mutator (record { mutator = m; action = actions.Read object field })

abbrev pub writing : ℕ → Register → ℕ → ℕ → Step
writing m object field word = steps.Mutator (record { mutator = m; action = actions.Write object field word })

-- a mutator makes an object without weak slots
abbrev pub making : ℕ → Register → Counts → Step
making m to counts = steps.Mutator (record { mutator = m; action = actions.New to counts })

-- a mutator stores a pointer: nil, or what a register holds
abbrev pub putting : ℕ → Register → ℕ → Option Register → Step
putting m object field value = steps.Mutator (record { mutator = m; action = actions.Put object field value })

-- the register names an object that has so many data words from one on
pub record HasDataWords (c : CoreState) (m : ℕ) (object : Register) (from count : ℕ) : Type 0 where
  pub at : ℕ
  pub named : register_of c m object ≡ Some at
  pub within : from + count ≤ length (values_at c.table at)

-- each word is what a step of its own reads
abbrev pub AreRead : CoreState → ℕ → Register → ℕ → List ℕ → Type 0
AreRead c m object from words = (i : ℕ) → i < length words → Takes c (reading m object (from + i)) (replies.Word (slice_index words i)) c

-- so many words from one on can't be read, since the last of them can't: its own step is refused in the same way
abbrev pub IsUnread : CoreState → ℕ → Register → ℕ → ℕ → Refusal → Type 0
IsUnread c m object from count why = Takes c (reading m object (from + (count - 1))) (replies.Refused why) c

-- steps that write the words, one after another, lead from one core to the other
abbrev pub AreWritten : CoreState → ℕ → Register → ℕ → List ℕ → CoreState → Type 0
AreWritten c m object from [] d = d ≡ c
AreWritten c m object from (w ∷ ws) d =
    (b : CoreState) × (Takes c (writing m object from w) replies.Done b × AreWritten b m object (suc from) ws d)

-- they can't be written, since the last of them can't
abbrev pub IsUnwritten : CoreState → ℕ → Register → ℕ → List ℕ → Refusal → Type 0
IsUnwritten c m object from words why =
    Takes c (writing m object (from + (length words - 1)) (slice_index words (length words - 1))) (replies.Refused why) c

-- each step that stores into a field of what the register holds is refused, since it holds nil
pub record AreRefused (c : CoreState) (m : ℕ) (object : Register) : Type 0 where
  pub put : (field : ℕ) (value : Option Register) → Takes c (putting m object field value) (replies.Refused refusals.Nil) c
  pub written : (field word : ℕ) → Takes c (writing m object field word) (replies.Refused refusals.Nil) c
