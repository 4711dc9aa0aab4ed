-- Why an event may not follow those before it, and what a judge knows of the events that it judged.
use Rattle.std.specs.Prelude.{◌≡◌, ◌-◌, ◌<◌, ◌⊎◌, List, [], ◌∷◌, ◌++◌, Option, Some, None, length, take, slice_get}
use Rattle.heap_words.specs.declared.config.Config.{Config}
use Rattle.heap_model.specs.Graph.{Graph, next_name}
use Rattle.graph_runs.specs.State.{State, first_state}
use Rattle.graph_runs.specs.Machine.{reply_of}
use Rattle.graph_runs.specs.Run.{IsCollectorReply, Creates, EventHappens, IsRun}
use Rattle.graph_runs.specs.Sparing.{SparingHappens, StandsFor}
use Rattle.heap_steps.specs.declared.step.Step.{Step}
use Rattle.heap_steps.specs.declared.step.Step.TheVariants as steps
use Rattle.heap_steps.specs.declared.step.Event.{Event}
use Rattle.heap_steps.specs.declared.step.Reply.{Reply}
use Rattle.heap_steps.specs.declared.step.Reply.TheVariants as replies
use Rattle.heap_steps.specs.declared.step.Refusal.TheVariants as refusals
use Rattle.object_graph.specs.declared.given.Given.{Given}
use Rattle.object_graph.specs.declared.given.Given.TheVariants as givens
use Rattle.object_graph.specs.declared.judge.Finding.{Finding}
use Rattle.object_graph.specs.declared.judge.Finding.TheVariants as findings
use Rattle.object_graph.specs.declared.judge.Verdict.{Verdict}
use Rattle.object_graph.specs.declared.judge.Verdict.TheVariants as verdicts

-- What the graph gives for a step: for a mutator's its reply, or, where the step would create an object, that one's name; for the
-- collector's no reply of its own, but the form of the step's replies.
abbrev pub IsGiven : Graph → Step → Given → Type 0
IsGiven g (steps.Mutator o) (givens.Reply r) = (r ≡ reply_of g o) × (Creates g o → ⊥)
IsGiven g (steps.Mutator o) (givens.Object n) = (n ≡ next_name g) × Creates g o
IsGiven g (steps.Collector k) (givens.Form j) = j ≡ k
IsGiven g _ _ = ⊥

-- the replies that may be where the graph gives this
abbrev pub MayStand : Given → Reply → Type 0
MayStand (givens.Reply r) s = s ≡ r
MayStand (givens.Object n) s = (s ≡ replies.Named (Some n)) ⊎ (s ≡ replies.Refused refusals.Full)
MayStand (givens.Form k) s = IsCollectorReply k s

-- The events are a run from first, and the event may not follow them: where it is, the graph gives this.
pub record Refuses (first : State) (es : List Event) (e : Event) (given : Given) : Type 0 where
  pub before : State
  pub run : IsRun first es before
  pub stops : (after : State) → EventHappens before e after → ⊥
  pub gives : IsGiven before.graph e.step given

-- what the judge finds: so many events, and they are a run; or the n-th of them, which may not follow those before it
abbrev pub Finds : State → List Event → Finding → Type 0
Finds first es (findings.Allowed n) = (n ≡ length es) × (last : State) × IsRun first es last
Finds first es (findings.Refused n e given) = (0 < n) × (slice_get es (n - 1) ≡ Some e) × Refuses first (take (n - 1) es) e given

-- the verdict of a finding
abbrev pub verdict_of : Finding → Verdict
verdict_of (findings.Allowed n) = verdicts.Yes n
verdict_of (findings.Refused n e given) = verdicts.No n

-- what a judge holds: the sizes of the heap, and a state
pub record Judging : Type 0 where
  pub config : Config
  pub state : State

-- the judge has judged these events: they are a run from the state of a new heap, and its state stands for the one after them
abbrev pub HasJudged : Judging → List Event → Type 0
HasJudged j es = (st : State) × IsRun (first_state j.config) es st × StandsFor j.state st

-- the judge, which has judged these events, is given one more: that may follow them, or it tells why not
abbrev pub JudgesNext : Judging → Judging → List Event → Event → Option Given → Type 0
JudgesNext old new es e None = HasJudged new (es ++ e ∷ [])
JudgesNext old new es e (Some given) = Refuses (first_state old.config) es e given

-- the same of the judge's state alone
abbrev pub SparingJudges : State → Step → Reply → State → Option Given → Type 0
SparingJudges old k r new None = SparingHappens old k r new
SparingJudges old k r new (Some given) = ((after : State) → SparingHappens old k r after → ⊥) × IsGiven old.graph k given
