-- A record that is read, and the view of its heap that is written.
use Rattle.std.specs.Prelude.{◌≡◌, ℕ, ⊤, List, map, Option, Result, Ok}
use Rattle.heap_steps.specs.Actors.{EventList}
use Rattle.heap_steps.specs.declared.step.Event.{Event}
use Rattle.heap_steps.specs.Faults.{IsRunFault}
use Rattle.script_text.specs.Events.{record_of}
use Rattle.script_text.specs.Watched.{Reader, Writer}
use Rattle.step_core.specs.Stands.{CoreState}
use Rattle.step_core.specs.Passages.{RunsFromNew, RunsTo, step_in}
use Rattle.job_ends.specs.Answers.{AnswersRecord}
use Rattle.job_ends.specs.Runs.{TellsEnd}
use Rattle.job_ends.specs.declared.faults.JobFault.{JobFault}
use Rattle.job_ends.specs.declared.faults.JobFault.TheVariants as faults
use Rattle.jobs.specs.Replays.{reply_in, DiffersAt}
use Rattle.heap_view.specs.declared.glance.Glance.{Glance}
use Rattle.heap_view.specs.Glances.{IsViewText}
use Rattle.heap_view.specs.Views.{front}

-- a new heap does the steps of these events, gives each their replies, and then is this core
pub record GoesTo (events : EventList) (core : CoreState) : Type 0 where
  pub ran : List Event
  pub ends : RunsTo events.config ran core
  pub steps : map step_in ran ≡ map step_in events.events
  pub replies : map reply_in ran ≡ map reply_in events.events

-- the first so many events of a record
abbrev pub beginning_of : Option ℕ → EventList → EventList
beginning_of at history = record history { events = front at history.events }

-- the text is the view of the core at which the first so many events of a record ended
pub record IsReviewOf (glance : Glance) (types : List ℕ) (history : EventList) (text : List ℕ) : Type 0 where
  pub core : CoreState
  pub goes : GoesTo (beginning_of glance.at history) core
  pub is : IsViewText glance types core text

-- the input is a record, and the text is the view of it
pub record IsReviewOfRecord (glance : Glance) (types input text : List ℕ) : Type 0 where
  pub history : EventList
  pub read : record_of input ≡ Ok history
  pub viewed : IsReviewOf glance types history text

-- why a new heap didn't do the steps of these events and give them their replies
abbrev pub IsRedoFault : EventList → JobFault → Type 0
IsRedoFault events (faults.Run fault) = IsRunFault events.config fault
IsRedoFault events (faults.Differs event) = DiffersAt RunsFromNew events event
IsRedoFault events _ = ⊥

-- how a view of a record after so many events ended, with the names of types that a text gives
abbrev pub Reviews : Glance → List ℕ → Reader → Reader → Writer → Writer → Result ⊤ JobFault → Type 0
Reviews glance types given left old new outcome =
    AnswersRecord (IsReviewOfRecord glance types) (λ history. DiffersAt RunsFromNew (beginning_of glance.at history)) given left old new
    outcome

-- A record was viewed so, and it was told so.
pub record PerformsReview (glance : Glance) (types : List ℕ) (given left : Reader) (old new err err' : Writer) (status : ℕ) : Type 0 where
  pub outcome : Result ⊤ JobFault
  pub views : Reviews glance types given left old new outcome
  pub tells : TellsEnd err err' outcome status
