-- What a call does to a heap: nothing, where there is none, or a core.
use Rattle.std.specs.Prelude.{◌≡◌, ◌↔◌, ◌⊎◌, ℕ, ◌-◌, ◌<◌, Option, Some, None, Bool, true, if◌then◌else◌}
use Rattle.heap_words.specs.declared.config.Config.{Config}
use Rattle.heap_words.specs.declared.config.NewFault.{NewFault}
use Rattle.heap_words.specs.Configs.{Suits, IsNewFault, registers_of}
use Rattle.heap_model.specs.Graph.{Graph, register_place}
use Rattle.heap_steps.specs.Actors.{IsOp, IsStep}
use Rattle.graph_runs.specs.State.{State, root_at, first_state}
use Rattle.heap_steps.specs.declared.step.Op.{Op}
use Rattle.heap_steps.specs.declared.step.Step.{Step}
use Rattle.heap_steps.specs.declared.step.Reply.{Reply}
use Rattle.heap_steps.specs.declared.step.Reply.TheVariants as replies
use Rattle.heap_steps.specs.declared.step.Refusal.TheVariants as refusals
use Rattle.step_core.specs.Stands.{CoreState, Stands, ShowsGraph, name_in}
use Rattle.step_core.specs.Answers.{Follows, IsFullStep}
use Rattle.step_core.specs.Reclaimed.{IsReclaimed}
use Rattle.heap_calls.specs.FreeRuns.{IsLongestRun}
use Rattle.step_core.specs.Cycle.{Does, MayReclaim}
use Rattle.step_core.specs.Mutators.{register_of}
use Rattle.step_core.specs.Fresh.{fresh_core}
use Rattle.heap_calls.specs.Numbers.{told, no_step, no_heap, no_memory, numbers, counted, fault_code, register}
use Rattle.heap_calls.specs.declared.answer.Answer.{Answer}

-- how the reply of a step from one core to another is told: as it is; and of a mark, by how many objects it scanned
abbrev pub plain : CoreState → CoreState → Reply → Answer
plain c c' reply = numbers reply

abbrev pub scanned : CoreState → CoreState → Reply → Answer
scanned c c' reply = counted (c'.marker.scans.since - c.marker.scans.since) reply

-- The core takes the step, and the answer tells its reply: all that `Core::step` promises of the step. Then the heap is the core after it
pub record Steps (tell : CoreState → CoreState → Reply → Answer) (c : CoreState) (step : Step) (answer : Answer) (after : Option CoreState)
    : Type 0 where
  pub reply : Reply
  pub core : CoreState
  pub tells : answer ≡ tell c core reply
  pub held : after ≡ Some core
  pub follows : (s : State) → Stands s c → Follows s step reply core
  pub does : Does step reply c core
  pub reclaims : (k : ℕ) → IsReclaimed c.table core.table k → MayReclaim step c k
  pub full : (s : State) → Stands s c → (reply ≡ replies.Refused refusals.Full) ↔ IsFullStep s.graph step c

-- a heap is as it was
pub record StaysSame (before : Option CoreState) (code : Answer) (answer : Answer) (after : Option CoreState) : Type 0 where
  pub answer_is : answer ≡ code
  pub same : after ≡ before

-- a heap takes the step if its sizes have it, and else is as it was, with the answer that there is no such step
pub record TakesOrNot (tell : CoreState → CoreState → Reply → Answer) (c : CoreState) (step : Step) (answer : Answer)
    (after : Option CoreState)
    : Type 0 where
  pub takes : IsStep c.config step → Steps tell c step answer after
  pub not : (IsStep c.config step → ⊥) → StaysSame (Some c) no_step answer after

abbrev pub TakesStep : (CoreState → CoreState → Reply → Answer) → Option CoreState → Step → Answer → Option CoreState → Type 0
TakesStep tell None step answer after = StaysSame None no_heap answer after
TakesStep tell (Some c) step answer after = TakesOrNot tell c step answer after

-- a mutator's step that a heap has if and only if it has the mutator and the register of this number, above which the step names none
abbrev pub IsUpTo : ℕ → Op → Type 0
IsUpTo highest o = (c : Config) → IsOp c o ↔ ((o.mutator < c.mutators) × (highest < registers_of c))

-- the numbers name no step
abbrev pub TakesNone : Option CoreState → Answer → Option CoreState → Type 0
TakesNone None answer after = StaysSame None no_heap answer after
TakesNone (Some c) answer after = StaysSame (Some c) no_step answer after

-- a heap tells something, and is as it was
abbrev pub Tells : (CoreState → Answer → Type 0) → Option CoreState → Answer → Option CoreState → Type 0
Tells P None answer after = StaysSame None no_heap answer after
Tells P (Some c) answer after = P c answer × (after ≡ Some c)

-- a number of the core
abbrev pub IsNumber : (CoreState → ℕ) → CoreState → Answer → Type 0
IsNumber f c answer = answer ≡ told 10 (f c) 0

-- so many regions are free side by side, and nowhere more
pub record IsFreeRun (c : CoreState) (answer : Answer) : Type 0 where
  pub count : ℕ
  pub is : answer ≡ told 10 count 0
  pub longest : IsLongestRun c.table count

-- 1 where something holds of the core, and else 0
abbrev pub IsSign : (CoreState → Type 0) → CoreState → Answer → Type 0
IsSign P c answer = ((answer ≡ told 10 1 0) × P c) ⊎ ((answer ≡ told 10 0 0) × (P c → ⊥))

abbrev pub IsMarking : CoreState → Type 0
IsMarking c = c.marker.running ≡ true

-- the mutator has the register
pub record HasRegister (c : CoreState) (m r : ℕ) : Type 0 where
  pub mutator : m < c.config.mutators
  pub register : r < registers_of c.config

-- the name that a mutator's register holds, which is the one that the graph's register holds; or there is no such register
pub record IsName (m r : ℕ) (c : CoreState) (answer : Answer) : Type 0 where
  pub name : HasRegister c m r → answer ≡ numbers (replies.Named (name_in c.table (register_of c m (register r))))
  pub shows : HasRegister c m r → (g : Graph) → ShowsGraph g c
      → answer ≡ numbers (replies.Named (root_at g (register_place g.places m r)))
  pub none : (HasRegister c m r → ⊥) → answer ≡ no_step

-- what is answered where memory is to go back to the system: done, if the memory that this asks for meanwhile is granted
abbrev pub given_back : Bool → Answer
given_back granted = if granted then told 0 0 0 else no_memory

-- memory goes back, if that is granted; the heap is as it was
abbrev pub GivesBack : Bool → Option CoreState → Answer → Option CoreState → Type 0
GivesBack granted = Tells (λ c answer. answer ≡ given_back granted)

-- a new heap of these sizes: they suit, and it stands for the state with no objects
pub record IsMade (config : Config) (code : ℕ) (after : Option CoreState) : Type 0 where
  pub done : code ≡ 0
  pub held : after ≡ Some (fresh_core config)
  pub suits : Suits config
  pub stands : Stands (first_state config) (fresh_core config)

-- why none was made: the first fault of the sizes, or want of memory where they suit
pub record IsNotMade (config : Config) (code : ℕ) (after : Option CoreState) : Type 0 where
  pub fault : NewFault
  pub tells : code ≡ fault_code fault
  pub is : IsNewFault config fault
  pub none : after ≡ None

-- a heap is made in the place of none; one that is there stays
abbrev pub MakesHeap : Option CoreState → Config → ℕ → Option CoreState → Type 0
MakesHeap None config code after = IsMade config code after ⊎ IsNotMade config code after
MakesHeap (Some c) config code after = (code ≡ 34) × (after ≡ Some c)
