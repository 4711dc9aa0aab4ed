-- Which events may follow one another.
use Rattle.std.specs.Prelude.{◌≡◌, ℕ, ◌-◌, ◌<◌, ◌≤◌, ◌⊎◌, List, Option, Some, None, length, take, slice_get, ◌∷◌, []}
use Rattle.heap_model.specs.Graph.{Graph, next_name}
use Rattle.heap_model.specs.Weak.{touched, Clears}
use Rattle.graph_runs.specs.State.{State}
use Rattle.graph_runs.specs.Machine.{outcome_of, reply_of}
use Rattle.heap_steps.specs.Forms.{collection_replies, collection_verb, IsAmong}
use Rattle.heap_steps.specs.declared.step.Action.{Action}
use Rattle.heap_steps.specs.declared.step.Action.TheVariants as actions
use Rattle.heap_steps.specs.declared.step.Op.{Op}
use Rattle.heap_steps.specs.declared.step.CollectorStep.{CollectorStep}
use Rattle.heap_steps.specs.declared.step.CollectorStep.TheVariants as collector
use Rattle.heap_steps.specs.declared.step.Step.{Step}
use Rattle.heap_steps.specs.declared.step.Step.TheVariants as steps
use Rattle.heap_steps.specs.declared.step.Event.{Event}
use Rattle.heap_steps.specs.declared.step.Reply.{Reply}
use Rattle.heap_steps.specs.declared.step.Reply.TheVariants as replies
use Rattle.heap_steps.specs.declared.step.Refusal.TheVariants as refusals

-- the replies that a step of the collector may have
abbrev pub IsCollectorReply : CollectorStep → Reply → Type 0
IsCollectorReply k reply = IsAmong (collection_replies (collection_verb k)) reply

-- the action asks for an object
abbrev pub IsNew : Action → Type 0
IsNew (actions.New to counts) = Unit {0}
IsNew (actions.NewWeak to counts weaks) = Unit {0}
IsNew _ = ⊥

-- the step would create an object
abbrev pub Creates : Graph → Op → Type 0
Creates old o = IsNew o.action × (reply_of old o ≡ replies.Named (Some (next_name old)))

-- the snapshot after a mutator's step: what a getweak replied with is touched
abbrev pub snapshot_after : Option Graph → Action → Reply → Option Graph
snapshot_after (Some s) (actions.GetWeak to object i) (replies.Named v) = Some (touched s v)
snapshot_after snapshot _ _ = snapshot

-- at the end of marking the weak slots are cleared by the snapshot; without one nothing changes
abbrev pub ClearsBy : Option Graph → Graph → Graph → Type 0
ClearsBy None old new = new ≡ old
ClearsBy (Some s) old new = Clears s old new

-- what a step of the collector changes: a begin that was done takes the snapshot, a remark that marked clears weak slots by it
-- and gives it up
abbrev pub ChangesState : State → CollectorStep → Reply → State → Type 0
ChangesState old collector.Begin replies.Done new = new ≡ record { graph = old.graph; snapshot = Some old.graph }
ChangesState old collector.Remark (replies.Marked n) new = (new.snapshot ≡ None) × ClearsBy old.snapshot old.graph new.graph
ChangesState old _ _ new = new ≡ old

-- From old the step may have the reply, and new is the state after it. A mutator's reply is the graph's; where an
-- object would be created, the heap may be full instead, and then nothing changes.
abbrev pub Happens : State → Step → Reply → State → Type 0
Happens old (steps.Mutator o) reply new =
    (((reply, new.graph) ≡ outcome_of old.graph o) × (new.snapshot ≡ snapshot_after old.snapshot o.action reply))
    ⊎ (Creates old.graph o × (reply ≡ replies.Refused refusals.Full) × (new ≡ old))
Happens old (steps.Collector k) reply new = IsCollectorReply k reply × ChangesState old k reply new

-- the same of an event
abbrev pub EventHappens : State → Event → State → Type 0
EventHappens old e new = Happens old e.step e.reply new

-- From old the events may happen one after another, and new is the state after them.
abbrev pub IsRun : State → List Event → State → Type 0
IsRun old [] new = new ≡ old
IsRun old (e ∷ es) new = (mid : State) × EventHappens old e mid × IsRun mid es new

-- The events before the n-th are a run, and none goes on with the n-th.
pub record BreaksAt (first : State) (es : List Event) (n : ℕ) : Type 0 where
  pub positive : 0 < n
  pub within : n ≤ length es
  pub before : State
  pub run : IsRun first (take (n - 1) es) before
  pub stops : (e : Event) → slice_get es (n - 1) ≡ Some e → (after : State) → EventHappens before e after → ⊥

-- the fact holds if the step is a mutator's
abbrev pub ForMutator : Step → (Op → Type 0) → Type 0
ForMutator (steps.Mutator o) P = P o
ForMutator (steps.Collector k) P = Unit {0}
