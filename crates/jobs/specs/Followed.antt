-- A record that is judged as it is written.
use Rattle.std.specs.Prelude.{◌≡◌, ◌≢◌, ◌⊎◌, ℕ, Bool, true, false, List, [], ◌∷◌, ◌++◌, Result, Ok, Err, length}
use Rattle.std.specs.Io.KnownBytes.{IsAtEnd}
use Rattle.object_graph.specs.Reasons.{verdict_of}
use Rattle.object_graph.specs.declared.judge.Finding.{Finding}
use Rattle.object_graph.specs.declared.judge.Finding.TheVariants.{Allowed, Refused}
use Rattle.object_graph.specs.declared.judge.Verdict.TheVariants.{Yes, No}
use Rattle.script_text.specs.Awaited.{whole_lines}
use Rattle.script_text.specs.Events.{record_of}
use Rattle.script_text.specs.Watched.{Reader, Writer, Gives, FailsToGive, TookBytes, TakesPart, WritesNothing}
use Rattle.script_text.specs.declared.fault.LineFault.{LineFault}
use Rattle.script_text.specs.declared.fault.WriteFault.TheVariants as writes
use Rattle.job_ends.specs.Runs.{GivesAll}
use Rattle.jobs.specs.Verdicts.{verdict_line, IsUnjudged, TellsVerdict, IsTextOfRun, IsTextBrokenAt}
use Rattle.jobs.specs.Explanations.{IsExplained, finding_text, judged_by}
use Rattle.job_ends.specs.declared.faults.JobFault.{JobFault}
use Rattle.job_ends.specs.declared.faults.JobFault.TheVariants as faults

-- the text begins with these lines
abbrev pub GoesOnBehind : List ℕ → List ℕ → Type 0
GoesOnBehind text lines = (rest : List ℕ) × (text ≡ lines ++ rest)

-- Whatever comes after the text, up to a line feed, it has this fault: so the fault's line is known to be wrong.
abbrev pub IsWrongAlready : LineFault → List ℕ → Type 0
IsWrongAlready fault text = (more : List ℕ) → record_of (text ++ more ++ 10 ∷ []) ≡ Err fault

-- the text begins with the lines of a record that breaks at its last event, and the graph alone says so
abbrev pub BreaksAlready : List ℕ → ℕ → Finding → Type 0
BreaksAlready text n finding = (lines : List ℕ) × GoesOnBehind text lines
    × ((found : IsExplained lines finding) × (length found.history.events ≡ n))

-- What is found of a text that a reader gave so far: yes at the end of input alone, of all that is whole; no where it begins with a record
-- that breaks at its last event; a line's fault where that is known already, or at the end if no line came; and why it isn't judged where
-- it begins with a record of which that is so.
abbrev pub IsFinding : List ℕ → Reader → Result Finding JobFault → Type 0
IsFinding text left (Ok (Allowed n)) = IsAtEnd left.left × IsExplained (whole_lines text) (Allowed n)
IsFinding text left (Ok (Refused n e given)) = BreaksAlready text n (Refused n e given)
IsFinding text left (Err (faults.Line fault)) = IsWrongAlready fault text ⊎ (IsAtEnd left.left × (record_of (whole_lines text) ≡ Err fault))
IsFinding text left (Err (faults.Judge fault)) = (lines : List ℕ) × GoesOnBehind text lines × IsUnjudged lines fault
IsFinding text left (Err _) = ⊥

-- the reader gave a text of which this is found; or reading failed
abbrev pub FindsBy : Reader → Reader → Result Finding JobFault → Type 0
FindsBy given left (Ok finding) = (text : List ℕ) × Gives given left text × IsFinding text left (Ok finding)
FindsBy given left (Err (faults.Read fault)) = FailsToGive fault given left
FindsBy given left (Err (faults.Line fault)) = (text : List ℕ) × Gives given left text × IsFinding text left (Err (faults.Line fault))
FindsBy given left (Err (faults.Judge fault)) = (text : List ℕ) × Gives given left text × IsFinding text left (Err (faults.Judge fault))
FindsBy given left (Err (faults.Run fault)) = ⊥
FindsBy given left (Err (faults.Write fault)) = ⊥
FindsBy given left (Err (faults.Differs event)) = ⊥

-- what is told of a finding: the verdict's line, and after a no its reason where that is asked for
abbrev pub told_text : Bool → Finding → List ℕ
told_text false finding = verdict_line (verdict_of finding)
told_text true finding = finding_text finding

-- How the judging of a record ended that is read as it is written. What was found is written at Ok alone; a beginning of it where the
-- writer refused; otherwise nothing.
abbrev pub EndsFollowed : Bool → Reader → Reader → Writer → Writer → Result Finding JobFault → Type 0
EndsFollowed explained given left old new (Ok finding) = FindsBy given left (Ok finding) × TookBytes old new (told_text explained finding)
EndsFollowed explained given left old new (Err (faults.Write fault)) = (finding : Finding) × FindsBy given left (Ok finding)
    × TakesPart old new (told_text explained finding) × (fault ≢ writes.NoMemory)
EndsFollowed explained given left old new (Err (faults.Read fault)) = FindsBy given left (Err (faults.Read fault)) × WritesNothing old new
EndsFollowed explained given left old new (Err (faults.Line fault)) = FindsBy given left (Err (faults.Line fault)) × WritesNothing old new
EndsFollowed explained given left old new (Err (faults.Judge fault)) = FindsBy given left (Err (faults.Judge fault)) × WritesNothing old new
EndsFollowed explained given left old new (Err (faults.Run fault)) = ⊥
EndsFollowed explained given left old new (Err (faults.Differs event)) = ⊥

-- A record was judged so, and it was told so.
pub record PerformsFollow (explained : Bool) (given left : Reader) (old new err err' : Writer) (status : ℕ) : Type 0 where
  pub outcome : Result Finding JobFault
  pub follows : EndsFollowed explained given left old new outcome
  pub tells : TellsVerdict err err' (judged_by outcome) status

-- The reader gave, to its end, the text of a run and perhaps a cut line, and the verdict yes was written, and no more, with nothing on
-- standard error.
abbrev pub FollowedYes : Reader → Reader → Writer → Writer → Writer → Writer → Type 0
FollowedYes given left old new err err' = (text : List ℕ) × (n : ℕ) × GivesAll given left text × IsTextOfRun (whole_lines text) n
    × TookBytes old new (verdict_line (Yes n)) × WritesNothing err err'

-- The reader gave the text of a record whose last event is the first that isn't allowed, and perhaps more, and the verdict no was written
-- with that event, and the line of its reason where that is asked for.
abbrev pub FollowedNo : Bool → Reader → Reader → Writer → Writer → Writer → Writer → Type 0
FollowedNo explained given left old new err err' =
    (text : List ℕ) × (lines : List ℕ) × (finding : Finding) × (n : ℕ) × Gives given left text × GoesOnBehind text lines
    × IsTextBrokenAt lines n × (verdict_of finding ≡ No n) × TookBytes old new (told_text explained finding) × WritesNothing err err'
