-- The cores and states of a run.
use Rattle.std.specs.Prelude.{◌≡◌, ◌↔◌, List, [], ◌∷◌, map}
use Rattle.heap_words.specs.declared.config.Config.{Config}
use Rattle.step_core.specs.Steps.{Actor, Event, Step}
use Rattle.heap_steps.specs.declared.step.Actor.TheVariants as actors
use Rattle.heap_steps.specs.declared.step.Step.TheVariants as steps
use Rattle.heap_steps.specs.declared.step.Reply.TheVariants as replies
use Rattle.heap_steps.specs.declared.step.Refusal.TheVariants as refusals
use Rattle.cards.specs.Cards.{ListsDirtyOnce}
use Rattle.heap_steps.specs.Actors.{StepList, EventList}
pub use Rattle.heap_steps.specs.Actors.{step_in}
use Rattle.graph_runs.specs.Run.{IsRun}
use Rattle.graph_runs.specs.State.{State, first_state}
use Rattle.step_core.specs.Stands.{CoreState, Stands, IsCore, IsWhole}
use Rattle.step_core.specs.Fresh.{fresh_core}
use Rattle.step_core.specs.Answers.{Follows, IsFullStep}
use Rattle.step_core.specs.Cycle.{Does}

-- An event takes a core that stands for a state to the next. The reply is Full exactly where there is no place; the next core keeps what
-- every core keeps, its dirty cards are listed once, and every object that a root reaches stands, whole and once, in regions in use
pub record Passes (s : State) (c : CoreState) (e : Event) (c' : CoreState) : Type 0 where
  pub follows : Follows s e.step e.reply c'
  pub does : Does e.step e.reply c c'
  pub full : (e.reply ≡ replies.Refused refusals.Full) ↔ IsFullStep s.graph e.step c
  pub core : IsCore c'
  pub listed : ListsDirtyOnce c'.cards
  pub whole : IsWhole follows.after.graph c'

-- states and cores between the events: each core stands for its state
abbrev pub IsPassage : State → CoreState → List Event → State → CoreState → Type 0
IsPassage s c [] s' c' = (s' ≡ s) × (c' ≡ c)
IsPassage s c (e ∷ es) s' c' = (mid : CoreState) × (p : Passes s c e mid) × IsPassage p.follows.after mid es s' c'

-- events from a state and a core on, to some state for which the last core stands
pub record Runs (s : State) (c : CoreState) (es : List Event) (c' : CoreState) : Type 0 where
  pub last : State
  pub stands : Stands last c'
  pub passage : IsPassage s c es last c'

-- the events of a new heap, up to a core: from the new core on, which stands for the first state
pub record RunsTo (config : Config) (es : List Event) (c : CoreState) : Type 0 where
  pub core : IsCore (fresh_core config)
  pub stands : Stands (first_state config) (fresh_core config)
  pub runs : Runs (first_state config) (fresh_core config) es c

-- the same, up to some core
abbrev pub RunsFromNew : Config → List Event → Type 0
RunsFromNew config es = (last : CoreState) × RunsTo config es last

abbrev pub actor_in : Event → Actor
actor_in e = e.actor

-- who takes a step of a script: the mutator itself, or the collector
abbrev pub actor_of : Step → Actor
actor_of (steps.Mutator o) = actors.Mutator o.mutator
actor_of (steps.Collector k) = actors.Collector

-- The record has the plan's heap line and its steps, each with its actor. It is a run of the graph, and the events are those of a new
-- heap's cores.
pub record IsRunInOrder (plan : StepList) (r : EventList) : Type 0 where
  pub config : r.config ≡ plan.config
  pub steps : map step_in r.events ≡ plan.steps
  pub actors : map actor_in r.events ≡ map actor_of plan.steps
  pub last : State
  pub run : IsRun (first_state plan.config) r.events last
  pub cores : RunsFromNew plan.config r.events
