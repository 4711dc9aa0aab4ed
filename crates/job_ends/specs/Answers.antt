-- A script or a record that is read, and a text that is written of it: a view of its heap, or a page.
use Rattle.std.specs.Prelude.{◌≡◌, ◌≢◌, ℕ, ⊤, List, Result, Ok, Err}
use Rattle.heap_steps.specs.Actors.{StepList, EventList}
use Rattle.heap_steps.specs.Faults.{IsRunFault}
use Rattle.script_text.specs.Lines.{script_of, FailsBy}
use Rattle.script_text.specs.Events.{record_of}
use Rattle.script_text.specs.Watched.{Reader, Writer, FailsToGive, TookBytes, TakesPart, WritesNothing}
use Rattle.script_text.specs.declared.fault.WriteFault.TheVariants.{NoMemory}
use Rattle.job_ends.specs.Runs.{GivesAll}
use Rattle.job_ends.specs.declared.faults.JobFault.{JobFault}
use Rattle.job_ends.specs.declared.faults.JobFault.TheVariants.{Read, Line, Run, Write, Differs}

-- What follows is said for any such text: `IsText input text`, it is one of this input.

-- such a text was written, and no more
abbrev pub WritesText : (List ℕ → List ℕ → Type 0) → List ℕ → Writer → Writer → Type 0
WritesText IsText input old new = (text : List ℕ) × IsText input text × TookBytes old new text

-- a beginning of such a text was written, not all of it, and then the writer refused
abbrev pub WritesBeginning : (List ℕ → List ℕ → Type 0) → List ℕ → Writer → Writer → Type 0
WritesBeginning IsText input old new = (text : List ℕ) × IsText input text × TakesPart old new text

-- How a job over a script ended: the reader was `given` before and is `left` after, and the writer was `old` before and is `new` after. The
-- text was written at Ok alone; a beginning of it where the writer refused; otherwise nothing.
abbrev pub AnswersScript : (List ℕ → List ℕ → Type 0) → Reader → Reader → Writer → Writer → Result ⊤ JobFault → Type 0
AnswersScript IsText given left old new (Ok done) = (input : List ℕ) × GivesAll given left input × WritesText IsText input old new
AnswersScript IsText given left old new (Err (Read fault)) = FailsToGive fault given left × WritesNothing old new
AnswersScript IsText given left old new (Err (Line fault)) = (input : List ℕ) × GivesAll given left input
    × FailsBy fault.kind fault input (script_of input) × WritesNothing old new
AnswersScript IsText given left old new (Err (Run fault)) = (input : List ℕ) × GivesAll given left input
    × ((plan : StepList) × (script_of input ≡ Ok plan) × IsRunFault plan.config fault) × WritesNothing old new
AnswersScript IsText given left old new (Err (Write fault)) =
    (input : List ℕ) × GivesAll given left input × WritesBeginning IsText input old new × (fault ≢ NoMemory)
AnswersScript IsText given left old new (Err _) = ⊥

-- the same over a record. Nothing was written where the heap gives another reply to an event: `IsOther history n`, event n is the first
abbrev pub AnswersRecord : (List ℕ → List ℕ → Type 0) → (EventList → ℕ → Type 0) → Reader → Reader → Writer → Writer
    → Result ⊤ JobFault → Type 0
AnswersRecord IsText IsOther given left old new (Ok done) =
    (input : List ℕ) × GivesAll given left input × WritesText IsText input old new
AnswersRecord IsText IsOther given left old new (Err (Read fault)) = FailsToGive fault given left × WritesNothing old new
AnswersRecord IsText IsOther given left old new (Err (Line fault)) = (input : List ℕ) × GivesAll given left input
    × FailsBy fault.kind fault input (record_of input) × WritesNothing old new
AnswersRecord IsText IsOther given left old new (Err (Run fault)) = (input : List ℕ) × GivesAll given left input
    × ((history : EventList) × (record_of input ≡ Ok history) × IsRunFault history.config fault) × WritesNothing old new
AnswersRecord IsText IsOther given left old new (Err (Differs event)) = (input : List ℕ) × GivesAll given left input
    × ((history : EventList) × (record_of input ≡ Ok history) × IsOther history event) × WritesNothing old new
AnswersRecord IsText IsOther given left old new (Err (Write fault)) =
    (input : List ℕ) × GivesAll given left input × WritesBeginning IsText input old new × (fault ≢ NoMemory)
AnswersRecord IsText IsOther given left old new (Err _) = ⊥
