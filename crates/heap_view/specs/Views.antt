-- A script that is read, and the view of its heap that is written.
use Rattle.std.specs.Prelude.{◌≡◌, ℕ, ⊤, List, take, Option, Some, None, Result, Ok}
use Rattle.heap_steps.specs.Actors.{StepList, EventList}
use Rattle.script_text.specs.Lines.{script_of}
use Rattle.script_text.specs.Watched.{Reader, Writer}
use Rattle.step_core.specs.Stands.{CoreState}
use Rattle.step_core.specs.Passages.{IsRunInOrder, RunsTo}
use Rattle.job_ends.specs.Answers.{AnswersScript}
use Rattle.job_ends.specs.Runs.{TellsEnd}
use Rattle.job_ends.specs.declared.faults.JobFault.{JobFault}
use Rattle.heap_view.specs.declared.glance.Glance.{Glance}
use Rattle.heap_view.specs.Glances.{IsViewText}

-- the first so many of a list, or all of it where no number is given
abbrev pub front : {A : Type 0} → Option ℕ → List A → List A
front None xs = xs
front (Some n) xs = take n xs

-- the plan of the first so many steps
abbrev pub front_of : Option ℕ → StepList → StepList
front_of at plan = record plan { steps = front at plan.steps }

-- The text is the view of the core at which a run of the plan's first so many steps in a new heap ended
pub record IsViewOf (glance : Glance) (types : List ℕ) (plan : StepList) (text : List ℕ) : Type 0 where
  pub events : EventList
  pub runs : IsRunInOrder (front_of glance.at plan) events
  pub core : CoreState
  pub ends : RunsTo plan.config events.events core
  pub is : IsViewText glance types core text

-- the input is a script, and the text is the view of it
pub record IsViewOfScript (glance : Glance) (types input text : List ℕ) : Type 0 where
  pub plan : StepList
  pub read : script_of input ≡ Ok plan
  pub viewed : IsViewOf glance types plan text

-- how a view ended, with the names of types that a text gives
abbrev pub Views : Glance → List ℕ → Reader → Reader → Writer → Writer → Result ⊤ JobFault → Type 0
Views glance types given left old new outcome = AnswersScript (IsViewOfScript glance types) given left old new outcome

-- A script was viewed so, and it was told so.
pub record PerformsView (glance : Glance) (types : List ℕ) (given left : Reader) (old new err err' : Writer) (status : ℕ) : Type 0 where
  pub outcome : Result ⊤ JobFault
  pub views : Views glance types given left old new outcome
  pub tells : TellsEnd err err' outcome status
