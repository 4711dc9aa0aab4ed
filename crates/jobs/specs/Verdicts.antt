-- A record that is read, and the verdict that is written.
use Rattle.std.specs.Prelude.{◌≡◌, ◌≢◌, ℕ, List, [], ◌∷◌, ◌++◌, Result, Ok, Err, length, codes}
use Rattle.std.specs.Fmt.{decimal}
use Rattle.heap_words.specs.declared.config.Config.{Config}
use Rattle.heap_words.specs.Configs.{Suits, IsFirstFault}
use Rattle.heap_steps.specs.Actors.{EventList}
use Rattle.graph_runs.specs.State.{State, first_state}
use Rattle.graph_runs.specs.Run.{IsRun, BreaksAt}
use Rattle.object_graph.specs.Judged.{Judged}
use Rattle.object_graph.specs.declared.judge.Verdict.{Verdict}
use Rattle.object_graph.specs.declared.judge.Verdict.TheVariants.{Yes, No}
use Rattle.script_text.specs.Fits.{IsRecord}
use Rattle.script_text.specs.Records.{record_text}
use Rattle.script_text.specs.Events.{record_of}
use Rattle.script_text.specs.Watched.{Reader, Writer, FailsToGive, TookBytes, TakesPart, WritesNothing}
use Rattle.script_text.specs.declared.fault.WriteFault.TheVariants as writes
use Rattle.job_ends.specs.FaultLines.{TellsLine}
use Rattle.job_ends.specs.Runs.{GivesAll}
use Rattle.job_ends.specs.declared.faults.JobFault.{JobFault}
use Rattle.job_ends.specs.declared.faults.JobFault.TheVariants as faults
use Rattle.job_ends.specs.declared.faults.JudgeFault.{JudgeFault}
use Rattle.job_ends.specs.declared.faults.JudgeFault.TheVariants as judges

-- the word before the number
abbrev pub verdict_word : Verdict → List ℕ
verdict_word (Yes n) = codes "yes "
verdict_word (No n) = codes "no "

-- how many events were allowed one after another, or which isn't allowed
abbrev pub verdict_number : Verdict → ℕ
verdict_number (Yes n) = n
verdict_number (No n) = n

-- the line that tells a verdict
abbrev pub verdict_line : Verdict → List ℕ
verdict_line verdict = verdict_word verdict ++ decimal (verdict_number verdict) ++ 10 ∷ []

-- the input is a record with sizes that suit, of which the graph alone says so
pub record IsJudged (input : List ℕ) (verdict : Verdict) : Type 0 where
  pub history : EventList
  pub read : record_of input ≡ Ok history
  pub suits : Suits history.config
  pub judged : Judged (first_state history.config) history.events verdict

-- why a record that was read isn't judged: its sizes' first fault, or want of memory where they suit
abbrev pub IsJudgeFault : Config → JudgeFault → Type 0
IsJudgeFault config (judges.Heap fault) = IsFirstFault config fault
IsJudgeFault config judges.NoMemory = Suits config

-- the input is a record that isn't judged because of this
abbrev pub IsUnjudged : List ℕ → JudgeFault → Type 0
IsUnjudged input fault = (history : EventList) × (record_of input ≡ Ok history) × IsJudgeFault history.config fault

-- the verdict on the input was written, and no more
abbrev pub WritesVerdict : List ℕ → Verdict → Writer → Writer → Type 0
WritesVerdict input verdict old new = IsJudged input verdict × TookBytes old new (verdict_line verdict)

-- a beginning of the verdict on the input was written, not all of it, and then the writer refused
abbrev pub WritesVerdictBeginning : List ℕ → Writer → Writer → Type 0
WritesVerdictBeginning input old new = (verdict : Verdict) × IsJudged input verdict × TakesPart old new (verdict_line verdict)

-- How the judging of a record ended: the reader was `given` before and is `left` after, and the writer was `old` before and is `new` after.
-- A verdict is written at Ok alone; a beginning of it where the writer refused; otherwise nothing. Nothing is run, and a verdict takes no
-- memory to be written.
abbrev pub Judges : Reader → Reader → Writer → Writer → Result Verdict JobFault → Type 0
Judges given left old new (Ok verdict) = (input : List ℕ) × GivesAll given left input × WritesVerdict input verdict old new
Judges given left old new (Err (faults.Read fault)) = FailsToGive fault given left × WritesNothing old new
Judges given left old new (Err (faults.Line fault)) = (input : List ℕ) × GivesAll given left input
    × (record_of input ≡ Err fault) × WritesNothing old new
Judges given left old new (Err (faults.Run fault)) = ⊥
Judges given left old new (Err (faults.Differs event)) = ⊥
Judges given left old new (Err (faults.Judge fault)) = (input : List ℕ) × GivesAll given left input × IsUnjudged input fault
    × WritesNothing old new
Judges given left old new (Err (faults.Write fault)) = (input : List ℕ) × GivesAll given left input × WritesVerdictBeginning input old new
    × (fault ≢ writes.NoMemory)

-- the status that tells a verdict, 0 for yes and 3 for no, or 1 for a fault, and what standard error took: nothing, or the fault's line
abbrev pub TellsVerdict : Writer → Writer → Result Verdict JobFault → ℕ → Type 0
TellsVerdict old new (Ok (Yes n)) status = (status ≡ 0) × WritesNothing old new
TellsVerdict old new (Ok (No n)) status = (status ≡ 3) × WritesNothing old new
TellsVerdict old new (Err fault) status = (status ≡ 1) × TellsLine fault old new

-- A record was judged so, and it was told so.
pub record PerformsCheck (given left : Reader) (old new err err' : Writer) (status : ℕ) : Type 0 where
  pub outcome : Result Verdict JobFault
  pub judges : Judges given left old new outcome
  pub tells : TellsVerdict err err' outcome status

-- the text of a record of so many events, whose sizes suit, and which are a run of the graph
pub record IsTextOfRun (input : List ℕ) (n : ℕ) : Type 0 where
  pub history : EventList
  pub good : IsRecord history
  pub spelled : input ≡ record_text history
  pub suits : Suits history.config
  pub last : State
  pub run : IsRun (first_state history.config) history.events last
  pub count : n ≡ length history.events

-- the text of a record whose sizes suit, and whose n-th event is the first that the graph doesn't allow
pub record IsTextBrokenAt (input : List ℕ) (n : ℕ) : Type 0 where
  pub history : EventList
  pub good : IsRecord history
  pub spelled : input ≡ record_text history
  pub suits : Suits history.config
  pub broken : BreaksAt (first_state history.config) history.events n

-- The reader gave the text of a run, to its end, and the verdict yes was written, and no more, with nothing on standard error.
abbrev pub ToldYes : Reader → Reader → Writer → Writer → Writer → Writer → Type 0
ToldYes given left old new err err' = (input : List ℕ) × (n : ℕ) × GivesAll given left input × IsTextOfRun input n
    × TookBytes old new (verdict_line (Yes n)) × WritesNothing err err'

-- The reader gave the text of a record, to its end, and the verdict no was written with its first event that isn't allowed, and no more.
abbrev pub ToldNo : Reader → Reader → Writer → Writer → Writer → Writer → Type 0
ToldNo given left old new err err' = (input : List ℕ) × (n : ℕ) × GivesAll given left input × IsTextBrokenAt input n
    × TookBytes old new (verdict_line (No n)) × WritesNothing err err'
