-- What a step answers, in the words of the graph.
use Rattle.std.specs.Prelude.{◌≡◌, ◌≤◌, ℕ, ⊤, Some, None, Result, Ok, Err}
use Rattle.heap_words.specs.declared.config.Config.{Config}
use Rattle.heap_words.specs.Configs.{object_limit}
use Rattle.heap_words.specs.Sizes.{size_of}
use Rattle.heap_model.specs.Graph.{Graph, next_name}
use Rattle.graph_runs.specs.Machine.{Outcome, act}
use Rattle.graph_runs.specs.State.{State}
use Rattle.graph_runs.specs.Run.{Happens}
use Rattle.step_core.specs.Steps.{Action, Refusal, Reply, Step}
use Rattle.heap_steps.specs.declared.step.Action.TheVariants as actions
use Rattle.heap_steps.specs.declared.step.Step.TheVariants as steps
use Rattle.heap_steps.specs.declared.step.Reply.TheVariants as replies
use Rattle.heap_steps.specs.declared.step.Refusal.TheVariants as refusals
use Rattle.alloc_buffers.specs.Placement.{allocation_of}
use Rattle.step_core.specs.Stands.{CoreState, ShowsGraph, Stands}
use Rattle.step_core.specs.declared.mutator.NewObject.{NewObject}

-- the reply is an outcome's, and the core shows the outcome's graph
pub record Yields (out : Outcome) (reply : Reply) (c : CoreState) : Type 0 where
  pub reply_is : reply ≡ out.0
  pub shows : ShowsGraph out.1 c

-- the reply is the graph's, and the core shows the graph after it
abbrev pub Acts : Graph → ℕ → Action → Reply → CoreState → Type 0
Acts g m a reply c = Yields (act g m a) reply c

-- the reply to who asks for an object: its name, or why it is refused
abbrev pub new_reply : Result NewObject Refusal → Reply
new_reply (Ok object) = replies.Named (Some object.name)
new_reply (Err why) = replies.Refused why

-- placement finds no place for so many words
abbrev pub HasNoPlace : CoreState → ℕ → ℕ → Type 0
HasNoPlace c m size = allocation_of c.table c.buffers m size ≡ None

-- the graph creates an object, and the heap has no place for it
abbrev pub IsFull : Graph → ℕ → Action → CoreState → Type 0
IsFull g m (actions.New to counts) c = ((act g m (actions.New to counts)).0 ≡ replies.Named (Some (next_name g)))
    × HasNoPlace c m (size_of counts.pointers 0 counts.values)
IsFull g m (actions.NewWeak to counts weaks) c = ((act g m (actions.NewWeak to counts weaks)).0 ≡ replies.Named (Some (next_name g)))
    × HasNoPlace c m (size_of counts.pointers weaks counts.values)
IsFull g m _ c = ⊥

-- the same of a step: the collector creates nothing
abbrev pub IsFullStep : Graph → Step → CoreState → Type 0
IsFullStep g (steps.Mutator o) c = IsFull g o.mutator o.action c
IsFullStep g (steps.Collector k) c = ⊥

-- the core as it was, and the reply Full, where the graph creates an object that has no place
pub record RepliesFull (g : Graph) (m : ℕ) (a : Action) (c : CoreState) (reply : Reply) (c' : CoreState) : Type 0 where
  pub reply_is : reply ≡ replies.Refused refusals.Full
  pub full : IsFull g m a c
  pub same : c' ≡ c

-- an object is no larger than an object may be, unless it is refused
abbrev pub IsWithin : Config → Action → Reply → Type 0
IsWithin config a (replies.Refused why) = ⊤
IsWithin config (actions.New to counts) _ = size_of counts.pointers 0 counts.values ≤ object_limit config
IsWithin config (actions.NewWeak to counts weaks) _ = size_of counts.pointers weaks counts.values ≤ object_limit config
IsWithin config _ _ = ⊤

-- the same of a step: the collector makes no object
abbrev pub IsWithinStep : Config → Step → Reply → Type 0
IsWithinStep config (steps.Mutator o) reply = IsWithin config o.action reply
IsWithinStep config (steps.Collector k) reply = ⊤

-- the step takes the state to another one, for which the core stands
pub record Follows (s : State) (step : Step) (reply : Reply) (c : CoreState) : Type 0 where
  pub after : State
  pub happens : Happens s step reply after
  pub stands : Stands after c
