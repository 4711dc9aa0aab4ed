-- A script that is read, and the record that is written.
use Rattle.std.specs.Prelude.{◌≡◌, ℕ, ⊤, List, Result, Ok, Err}
use Rattle.std.specs.Io.KnownBytes.{IsAtEnd}
use Rattle.heap_words.specs.declared.config.Config.{Config}
use Rattle.heap_steps.specs.Actors.{StepList, EventList}
use Rattle.script_text.specs.Lines.{script_of, FailsBy}
use Rattle.script_text.specs.Records.{record_text}
use Rattle.script_text.specs.Events.{record_of}
use Rattle.script_text.specs.Watched.{Reader, Writer, Gives, FailsToGive, TookBytes, FailsToTake, WritesNothing}
use Rattle.script_text.specs.declared.fault.WriteFault.{WriteFault}
use Rattle.heap_steps.specs.declared.fault.RunFault.{RunFault}
use Rattle.job_ends.specs.FaultLines.{TellsLine}
use Rattle.job_ends.specs.declared.faults.JobFault.{JobFault}
use Rattle.job_ends.specs.declared.faults.JobFault.TheVariants.{Read, Line, Run, Judge, Write, Differs}

-- Scripts are run in several orders. So what follows is said for any: `Makes plan r`, the record is one that such a run of the plan makes;
-- `Fails config fault`, such a run on a heap of these sizes may end with the fault.

-- the input is a script, and the record is one that its run makes
pub record IsScriptRun (Makes : StepList → EventList → Type 0) (input : List ℕ) (r : EventList) : Type 0 where
  pub plan : StepList
  pub read : script_of input ≡ Ok plan
  pub made : Makes plan r

-- the text of such a record was written, and no more
abbrev pub WritesRecord : (StepList → EventList → Type 0) → List ℕ → Writer → Writer → Type 0
WritesRecord Makes input old new = (r : EventList) × IsScriptRun Makes input r × TookBytes old new (record_text r)

-- the text of such a record could not be written
abbrev pub FailsToWrite : (StepList → EventList → Type 0) → List ℕ → WriteFault → Writer → Writer → Type 0
FailsToWrite Makes input fault old new = (r : EventList) × IsScriptRun Makes input r × FailsToTake fault old new (record_text r)

-- the reader gave these bytes, and is at its end
abbrev pub GivesAll : Reader → Reader → List ℕ → Type 0
GivesAll given left input = Gives given left input × IsAtEnd left.left

-- what the reader gave, to its end, is the script of the plan, or its first fault is told; or reading failed
abbrev pub ReadsPlan : Reader → Reader → Result StepList JobFault → Type 0
ReadsPlan given left (Ok plan) = (input : List ℕ) × GivesAll given left input × (script_of input ≡ Ok plan)
ReadsPlan given left (Err (Read fault)) = FailsToGive fault given left
ReadsPlan given left (Err (Line fault)) = (input : List ℕ) × GivesAll given left input × FailsBy fault.kind fault input (script_of input)
ReadsPlan given left (Err _) = ⊥

-- the same of a record
abbrev pub ReadsRecord : Reader → Reader → Result EventList JobFault → Type 0
ReadsRecord given left (Ok history) = (input : List ℕ) × GivesAll given left input × (record_of input ≡ Ok history)
ReadsRecord given left (Err (Read fault)) = FailsToGive fault given left
ReadsRecord given left (Err (Line fault)) = (input : List ℕ) × GivesAll given left input × FailsBy fault.kind fault input (record_of input)
ReadsRecord given left (Err _) = ⊥

-- what came of a run was answered: the record's text was written, or a beginning of it where the writer refused, or the fault is the run's
abbrev pub Answers : Result EventList RunFault → Writer → Writer → Result ⊤ JobFault → Type 0
Answers (Ok r) old new (Ok done) = TookBytes old new (record_text r)
Answers (Ok r) old new (Err (Write fault)) = FailsToTake fault old new (record_text r)
Answers (Err fault) old new (Err (Run told)) = (told ≡ fault) × WritesNothing old new
Answers _ old new _ = ⊥

-- How a script's run ended: the reader was `given` before and is `left` after, and the writer was `old` before and is `new` after. A record
-- is written at Ok alone; a beginning of it where the writer refused; otherwise nothing.
abbrev pub Ends : (StepList → EventList → Type 0) → (Config → RunFault → Type 0) → Reader → Reader → Writer → Writer → Result ⊤ JobFault
    → Type 0
Ends Makes Fails given left old new (Ok done) = (input : List ℕ) × GivesAll given left input × WritesRecord Makes input old new
Ends Makes Fails given left old new (Err (Read fault)) = FailsToGive fault given left × WritesNothing old new
Ends Makes Fails given left old new (Err (Line fault)) = (input : List ℕ) × GivesAll given left input
    × FailsBy fault.kind fault input (script_of input) × WritesNothing old new
Ends Makes Fails given left old new (Err (Run fault)) = (input : List ℕ) × GivesAll given left input
    × ((plan : StepList) × (script_of input ≡ Ok plan) × Fails plan.config fault) × WritesNothing old new
Ends Makes Fails given left old new (Err (Judge fault)) = ⊥
Ends Makes Fails given left old new (Err (Differs event)) = ⊥
Ends Makes Fails given left old new (Err (Write fault)) =
    (input : List ℕ) × GivesAll given left input × FailsToWrite Makes input fault old new

-- the status that tells how a run ended, and what standard error took: nothing where the job is done, else the fault's line
abbrev pub TellsEnd : Writer → Writer → Result ⊤ JobFault → ℕ → Type 0
TellsEnd old new (Ok done) status = (status ≡ 0) × WritesNothing old new
TellsEnd old new (Err fault) status = (status ≡ 1) × TellsLine fault old new

-- A script was run, and its end was told so: what was read, what was written, what standard error took, and the status. It is 0 if and only
-- if the run ended well.
pub record Performs (Makes : StepList → EventList → Type 0) (Fails : Config → RunFault → Type 0) (given left : Reader)
    (old new err err' : Writer) (status : ℕ) : Type 0 where
  pub outcome : Result ⊤ JobFault
  pub ends : Ends Makes Fails given left old new outcome
  pub tells : TellsEnd err err' outcome status
