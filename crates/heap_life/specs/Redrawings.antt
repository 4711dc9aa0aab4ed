-- A record that is read, and the page of the life of its heap that is written.
use Rattle.std.specs.Prelude.{◌≡◌, ℕ, ⊤, List, Result, Ok}
use Rattle.heap_steps.specs.Actors.{EventList}
use Rattle.heap_steps.specs.Faults.{IsRunFault}
use Rattle.script_text.specs.Events.{record_of}
use Rattle.script_text.specs.Watched.{Reader, Writer}
use Rattle.step_core.specs.Passages.{RunsFromNew}
use Rattle.job_ends.specs.Answers.{AnswersRecord}
use Rattle.job_ends.specs.Runs.{TellsEnd}
use Rattle.job_ends.specs.declared.faults.JobFault.{JobFault}
use Rattle.job_ends.specs.declared.faults.JobFault.TheVariants as faults
use Rattle.jobs.specs.Replays.{DiffersAt}
use Rattle.heap_life.specs.declared.life.Life.{Life}
use Rattle.heap_life.specs.Lives.{IsLifeOf}
use Rattle.heap_life.specs.Pages.{IsPageOf}

-- the page, drawn of a file of this name and with these names for shapes, of the life over a record's steps, in their order, to each of
-- which the heap gives the record's reply
pub record IsPageOfHistory (name names : List ℕ) (every : ℕ) (history : EventList) (page : List ℕ) : Type 0 where
  pub life : Life
  pub same : life.history ≡ history
  pub lives : IsLifeOf every history life
  pub drawn : IsPageOf name names life page

-- the same of the record that the input is
pub record IsPageOfRecord (name names : List ℕ) (every : ℕ) (input page : List ℕ) : Type 0 where
  pub history : EventList
  pub read : record_of input ≡ Ok history
  pub drawn : IsPageOfHistory name names every history page

-- why there is no such page
abbrev pub IsHistoryFault : EventList → JobFault → Type 0
IsHistoryFault history (faults.Run fault) = IsRunFault history.config fault
IsHistoryFault history (faults.Differs event) = DiffersAt RunsFromNew history event
IsHistoryFault history _ = ⊥

-- how a drawing of a record in a file of this name, with these names for shapes, ended
abbrev pub Redraws : List ℕ → List ℕ → ℕ → Reader → Reader → Writer → Writer → Result ⊤ JobFault → Type 0
Redraws name names every given left old new outcome =
    AnswersRecord (IsPageOfRecord name names every) (DiffersAt RunsFromNew) given left old new outcome

-- A record was drawn so, and it was told so.
pub record PerformsRedraw (name names : List ℕ) (every : ℕ) (given left : Reader) (old new err err' : Writer) (status : ℕ) : Type 0 where
  pub outcome : Result ⊤ JobFault
  pub draws : Redraws name names every given left old new outcome
  pub tells : TellsEnd err err' outcome status
