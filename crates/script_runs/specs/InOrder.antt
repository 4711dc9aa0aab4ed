-- A script's steps in their order, whose events are written as they are done.
use Rattle.std.specs.Prelude.{◌≡◌, ◌≢◌, ⊤, Result, Ok, Err, List, ◌++◌, IfOk, IfErr, map}
use Rattle.heap_steps.specs.Actors.{StepList, EventList, step_in}
use Rattle.heap_steps.specs.declared.step.Event.{Event}
use Rattle.heap_steps.specs.declared.step.Step.{Step}
use Rattle.heap_steps.specs.declared.fault.RunFault.{RunFault}
use Rattle.heap_steps.specs.Faults.{IsRunFault}
use Rattle.job_ends.specs.Runs.{Answers}
use Rattle.job_ends.specs.declared.faults.JobFault.{JobFault}
use Rattle.script_text.specs.Records.{record_text}
use Rattle.script_text.specs.Watched.{Writer, TakesPart}
use Rattle.script_text.specs.Written.{Lines, AreLinesOf, no_events, with_events}
use Rattle.script_text.specs.declared.fault.WriteFault.{WriteFault}
use Rattle.script_text.specs.declared.fault.WriteFault.TheVariants as writes
use Rattle.step_core.specs.Passages.{RunsTo, IsRunInOrder, actor_in, actor_of}
use Rattle.step_core.specs.Stands.{CoreState}

-- the writer took a beginning of the events' record, and the lines hold the rest; or it refused, whatever events come after
abbrev pub IsOnItsWay : StepList → List Event → Writer → Writer → Lines → Result ⊤ WriteFault → Type 0
IsOnItsWay plan es first now lines (Ok done) = AreLinesOf (with_events (no_events plan.config) es) first now lines
IsOnItsWay plan es first now lines (Err fault) = (fault ≢ writes.NoMemory)
    × ((more : List Event) → TakesPart first now (record_text (with_events (with_events (no_events plan.config) es) more)))

-- The plan's steps are done but for those that are left: the events are theirs, a run of a new heap up to this core, and their record is on
-- its way.
pub record HasDone (plan : StepList) (left : List Step) (c : CoreState) (first now : Writer) (lines : Lines) (outcome : Result ⊤ WriteFault)
    : Type 0 where
  pub events : List Event
  pub steps : map step_in events ++ left ≡ plan.steps
  pub actors : map actor_in events ++ map actor_of left ≡ map actor_of plan.steps
  pub runs : RunsTo plan.config events c
  pub record_is : IsOnItsWay plan events first now lines outcome

-- a run of the plan in its order, or its fault, was answered
abbrev pub AnswersInOrder : StepList → Writer → Writer → Result ⊤ JobFault → Type 0
AnswersInOrder plan old new result = (outcome : Result EventList RunFault)
    × IfOk outcome (IsRunInOrder plan) × IfErr outcome (IsRunFault plan.config) × Answers outcome old new result
