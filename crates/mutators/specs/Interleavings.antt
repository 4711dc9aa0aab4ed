-- Whole runs of actors.
use Rattle.std.specs.Prelude.{◌≡◌, ℕ, ◌≤◌, Bool, true, List, All, IsTrue, nat_lt}
use Rattle.heap_words.specs.declared.config.Config.{Config}
use Rattle.heap_words.specs.Configs.{Suits, IsFirstFault}
use Rattle.heap_steps.specs.Actors.{StepList, EventList}
use Rattle.graph_runs.specs.State.{State, first_state}
use Rattle.graph_runs.specs.Run.{IsRun}
use Rattle.step_core.specs.Steps.{Actor, Event, Step}
use Rattle.heap_steps.specs.declared.step.Actor.TheVariants.{Mutator, Collector, Marker, Refiner}
use Rattle.step_core.specs.Passages.{RunsFromNew}
use Rattle.heap_steps.specs.declared.fault.RunFault.{RunFault}
use Rattle.heap_steps.specs.declared.fault.RunFault.TheVariants as faults
use Rattle.mutators.specs.Scripts.{scripted, steps_of, lines_of, AreOwn}
use Rattle.mutators.specs.Journals.{JournalState, script_at}

-- a background actor's number is below the count asked for
abbrev pub is_asked : ℕ → ℕ → Actor → Bool
is_asked markers refiners (Mutator i) = true
is_asked markers refiners Collector = true
is_asked markers refiners (Marker i) = nat_lt i markers
is_asked markers refiners (Refiner i) = nat_lt i refiners

abbrev pub IsAsked : ℕ → ℕ → Actor → Type 0
IsAsked markers refiners a = IsTrue (is_asked markers refiners a)

abbrev pub AreAsked : ℕ → ℕ → List Event → Type 0
AreAsked markers refiners es = All (λ (e : Event). IsAsked markers refiners e.actor) es

-- each scripted actor's events are its whole script in its order, each step is one of its actor's, and the background actors are
-- among those asked for
pub record IsInterleaving (config : Config) (markers refiners : ℕ) (steps : List Step) (events : List Event) : Type 0 where
  pub scripts : (k : ℕ) → k ≤ config.mutators → steps_of (scripted config.mutators k) events ≡ lines_of (scripted config.mutators k) steps
  pub own : AreOwn config events
  pub asked : AreAsked markers refiners events

-- the record of a plan that was done to its end
pub record IsRunOf (plan : StepList) (markers refiners : ℕ) (r : EventList) : Type 0 where
  pub config : r.config ≡ plan.config
  pub whole : IsInterleaving plan.config markers refiners plan.steps r.events
  pub cores : RunsFromNew plan.config r.events
  pub last : State
  pub run : IsRun (first_state plan.config) r.events last

-- The faults of actors in threads, where their counts are in range: where the heap's sizes suit, want of memory, no thread that
-- could be started, and a script that isn't at its end; else their first fault
abbrev pub IsThreadsFault : Config → RunFault → Type 0
IsThreadsFault config faults.NoMemory = Suits config
IsThreadsFault config faults.NoWorker = Suits config
IsThreadsFault config faults.Unfinished = Suits config
IsThreadsFault config (faults.Heap fault) = IsFirstFault config fault
IsThreadsFault config faults.BadWorkers = ⊥

-- the journal does this plan: it has its sizes and its scripts, and the background actors of its events were asked for
pub record IsOf (plan : StepList) (markers refiners : ℕ) (j : JournalState) : Type 0 where
  pub config : j.core.config ≡ plan.config
  pub scripts : (k : ℕ) → k ≤ plan.config.mutators → script_at j k ≡ lines_of (scripted plan.config.mutators k) plan.steps
  pub asked : AreAsked markers refiners j.events
