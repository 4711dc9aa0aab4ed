-- A script that is read, and the page of its heap's life that is written.
use Rattle.std.specs.Prelude.{◌≡◌, ℕ, ⊤, List, Result, Ok}
use Rattle.heap_steps.specs.Actors.{StepList, EventList}
use Rattle.script_text.specs.Lines.{script_of}
use Rattle.script_text.specs.Watched.{Reader, Writer}
use Rattle.step_core.specs.Passages.{IsRunInOrder}
use Rattle.job_ends.specs.Answers.{AnswersScript}
use Rattle.job_ends.specs.Runs.{TellsEnd}
use Rattle.job_ends.specs.declared.faults.JobFault.{JobFault}
use Rattle.heap_life.specs.declared.life.Life.{Life}
use Rattle.heap_life.specs.Lives.{IsLifeOf}
use Rattle.heap_life.specs.Pages.{IsPageOf}

-- the page, drawn of a file of this name and with these names for shapes, of the life of a new heap over a plan's steps, in their order:
-- its record is the one that `run` writes
pub record IsPageOfPlan (name names : List ℕ) (every : ℕ) (plan : StepList) (page : List ℕ) : Type 0 where
  pub life : Life
  pub made : IsRunInOrder plan life.history
  pub events : EventList
  pub lives : IsLifeOf every events life
  pub drawn : IsPageOf name names life page

-- the page of the life over the steps of the script that the input is
pub record IsPageOfScript (name names : List ℕ) (every : ℕ) (input page : List ℕ) : Type 0 where
  pub plan : StepList
  pub read : script_of input ≡ Ok plan
  pub drawn : IsPageOfPlan name names every plan page

-- how a drawing of a file of this name, with these names for shapes, ended
abbrev pub Draws : List ℕ → List ℕ → ℕ → Reader → Reader → Writer → Writer → Result ⊤ JobFault → Type 0
Draws name names every given left old new outcome = AnswersScript (IsPageOfScript name names every) given left old new outcome

-- A script was drawn so, and it was told so.
pub record PerformsDraw (name names : List ℕ) (every : ℕ) (given left : Reader) (old new err err' : Writer) (status : ℕ) : Type 0 where
  pub outcome : Result ⊤ JobFault
  pub draws : Draws name names every given left old new outcome
  pub tells : TellsEnd err err' outcome status
