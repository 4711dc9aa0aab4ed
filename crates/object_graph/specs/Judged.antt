-- What the judge may say.
use Rattle.std.specs.Prelude.{◌≡◌, List, length}
use Rattle.graph_runs.specs.State.{State}
use Rattle.graph_runs.specs.Run.{IsRun, BreaksAt}
use Rattle.heap_steps.specs.declared.step.Event.{Event}
use Rattle.object_graph.specs.declared.judge.Verdict.{Verdict}
use Rattle.object_graph.specs.declared.judge.Verdict.TheVariants as verdicts

-- yes, with the number of events: they are a run; no, with a number: they break at that event
abbrev pub Judged : State → List Event → Verdict → Type 0
Judged first es (verdicts.Yes n) = (n ≡ length es) × (last : State) × IsRun first es last
Judged first es (verdicts.No n) = BreaksAt first es n
