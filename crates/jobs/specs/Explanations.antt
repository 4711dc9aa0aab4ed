-- A record that is read and judged, and the verdict that is written with its reason.
use Rattle.std.specs.Prelude.{◌≡◌, ◌≢◌, ◌⊎◌, ℕ, ◌+◌, List, [], ◌∷◌, ◌++◌, Option, Some, None, Result, Ok, Err, codes}
use Rattle.std.specs.Fmt.{decimal}
use Rattle.heap_words.specs.Configs.{Suits}
use Rattle.heap_steps.specs.Actors.{EventList}
use Rattle.graph_runs.specs.State.{first_state}
use Rattle.object_graph.specs.Reasons.{Finds, verdict_of}
use Rattle.object_graph.specs.declared.given.Given.{Given}
use Rattle.object_graph.specs.declared.given.Given.TheVariants as givens
use Rattle.object_graph.specs.declared.judge.Finding.{Finding}
use Rattle.object_graph.specs.declared.judge.Finding.TheVariants.{Allowed, Refused}
use Rattle.object_graph.specs.declared.judge.Verdict.{Verdict}
use Rattle.object_graph.specs.declared.judge.Verdict.TheVariants.{Yes, No}
use Rattle.heap_steps.specs.Forms.{collection_replies, collection_verb}
use Rattle.heap_steps.specs.declared.form.DoneReply.{DoneReply}
use Rattle.heap_steps.specs.declared.form.DoneReply.TheVariants as dones
use Rattle.heap_steps.specs.declared.step.CollectorStep.{CollectorStep}
use Rattle.heap_steps.specs.declared.step.Event.{Event}
use Rattle.heap_steps.specs.declared.step.Refusal.{Refusal}
use Rattle.heap_steps.specs.declared.step.Reply.TheVariants as replies
use Rattle.script_text.specs.Events.{record_of}
use Rattle.script_text.specs.Hints.{IsFaultReason}
use Rattle.script_text.specs.Records.{reply_words, event_text}
use Rattle.script_text.specs.Spelling.{spaced}
use Rattle.script_text.specs.Watched.{Reader, Writer, FailsToGive, TookBytes, TakesPart, WritesNothing}
use Rattle.script_text.specs.declared.fault.LineFault.{LineFault}
use Rattle.script_text.specs.declared.expected.TextKind.TheVariants.{Record}
use Rattle.script_text.specs.declared.fault.WriteFault.TheVariants as writes
use Rattle.jobs.specs.Reasons.{TellsMore, IsReadReason}
use Rattle.job_ends.specs.Runs.{GivesAll}
use Rattle.jobs.specs.Verdicts.{verdict_line, IsUnjudged, TellsVerdict}
use Rattle.job_ends.specs.declared.faults.JobFault.{JobFault}
use Rattle.job_ends.specs.declared.faults.JobFault.TheVariants as faults

-- what a step of the collector replies where it is done; a capital stands for any number
abbrev pub done_text : DoneReply → List ℕ
done_text dones.Ok = codes "ok"
done_text dones.Marked = codes "marked N"
done_text dones.Reclaimed = codes "reclaimed N"
done_text dones.Refined = codes "refined N"
done_text dones.Moved = codes "moved N W"

abbrev pub refused_text : Option Refusal → List ℕ
refused_text None = []
refused_text (Some why) = codes " or " ++ spaced (reply_words (replies.Refused why))

-- the replies that a step of the collector may have
abbrev pub form_text : CollectorStep → List ℕ
form_text k = done_text (collection_replies (collection_verb k)).done ++ refused_text (collection_replies (collection_verb k)).refused

-- what the graph gives for a step
abbrev pub given_text : Given → List ℕ
given_text (givens.Reply r) = spaced (reply_words r)
given_text (givens.Object n) = codes "#" ++ decimal n ++ codes " or refused 3 Full"
given_text (givens.Form k) = form_text k

-- the line that tells why the n-th event may not happen, which is in the record's line n + 1
abbrev pub reason_line : ℕ → Event → Given → List ℕ
reason_line n e given =
    codes "event " ++ decimal n ++ codes ", line " ++ decimal (n + 1) ++ codes ": " ++ event_text e
    ++ codes "; the graph gives " ++ given_text given ++ 10 ∷ []

-- the verdict's line, and after a no its reason
abbrev pub finding_text : Finding → List ℕ
finding_text (Allowed n) = verdict_line (Yes n)
finding_text (Refused n e given) = verdict_line (No n) ++ reason_line n e given

-- the input is a record with sizes that suit, of which the graph alone says so
pub record IsExplained (input : List ℕ) (finding : Finding) : Type 0 where
  pub history : EventList
  pub read : record_of input ≡ Ok history
  pub suits : Suits history.config
  pub finds : Finds (first_state history.config) history.events finding

-- what is found of the input, or why it isn't judged: its first line with a fault, or what a record without one lacks
abbrev pub FindsIn : List ℕ → Result Finding JobFault → Type 0
FindsIn input (Ok finding) = IsExplained input finding
FindsIn input (Err (faults.Line fault)) = record_of input ≡ Err fault
FindsIn input (Err (faults.Judge fault)) = IsUnjudged input fault
FindsIn input (Err _) = ⊥

-- what was found of the input was written, and no more
abbrev pub WritesFinding : List ℕ → Finding → Writer → Writer → Type 0
WritesFinding input finding old new = IsExplained input finding × TookBytes old new (finding_text finding)

-- a beginning of that was written, not all of it, and then the writer refused
abbrev pub WritesFindingBeginning : List ℕ → Writer → Writer → Type 0
WritesFindingBeginning input old new = (finding : Finding) × IsExplained input finding × TakesPart old new (finding_text finding)

-- what tells of a record's line with a fault was written whole, or a beginning of it, and then the writer refused
pub record TellsHint (fault : LineFault) (input : List ℕ) (old new : Writer) : Type 0 where
  pub told : List ℕ
  pub reason : IsFaultReason Record fault input told
  pub written : TookBytes old new told ⊎ TakesPart old new told

-- How the judging of a record ended that is to be explained, as `Judges` has it of one that isn't; but of a line with a fault standard
-- output is told too.
abbrev pub Explains : Reader → Reader → Writer → Writer → Result Finding JobFault → Type 0
Explains given left old new (Ok finding) = (input : List ℕ) × GivesAll given left input × WritesFinding input finding old new
Explains given left old new (Err (faults.Read fault)) = FailsToGive fault given left × WritesNothing old new
Explains given left old new (Err (faults.Line fault)) = (input : List ℕ) × GivesAll given left input
    × (record_of input ≡ Err fault) × TellsHint fault input old new
Explains given left old new (Err (faults.Run fault)) = ⊥
Explains given left old new (Err (faults.Differs event)) = ⊥
Explains given left old new (Err (faults.Judge fault)) =
    (input : List ℕ) × GivesAll given left input × IsUnjudged input fault × WritesNothing old new
Explains given left old new (Err (faults.Write fault)) = (input : List ℕ) × GivesAll given left input × WritesFindingBeginning input old new
    × (fault ≢ writes.NoMemory)

-- the outcome of a judging without its reason
abbrev pub judged_by : Result Finding JobFault → Result Verdict JobFault
judged_by (Ok finding) = Ok (verdict_of finding)
judged_by (Err fault) = Err fault

-- How the judging of a file of this name was told, as without its reason; but where it can't be read, why
abbrev pub TellsFinding : List ℕ → Writer → Writer → Result Finding JobFault → ℕ → Type 0
TellsFinding name old new (Err (faults.Read fault)) status = (status ≡ 1) × TellsMore (faults.Read fault) (IsReadReason name) old new
TellsFinding name old new outcome status = TellsVerdict old new (judged_by outcome) status

-- A record in a file of this name was judged and explained so, and it was told so.
pub record PerformsExplain (name : List ℕ) (given left : Reader) (old new err err' : Writer) (status : ℕ) : Type 0 where
  pub outcome : Result Finding JobFault
  pub explains : Explains given left old new outcome
  pub tells : TellsFinding name err err' outcome status
