-- What is told of a file that can't be opened, by task.
use Rattle.std.proofs.Common.{◌≡◌, Err, ℕ, Bool, List, true, false, inr, refl}
use Rattle.script_text.specs.Watched.{Reader, Writer, FailsToGive, WritesNothing}
use Rattle.script_text.specs.declared.fault.ReadFault.TheVariants as reads
use Rattle.jobs.specs.Reasons.{IsReadReason, TellsMore}
use Rattle.job_ends.specs.Runs.{TellsEnd}
use Rattle.jobs.specs.Verdicts.{TellsVerdict}
use Rattle.job_ends.specs.declared.faults.JobFault.TheVariants as faults
use Rattle.command_line.specs.declared.Task.{Task}
use Rattle.command_line.specs.declared.Task.TheVariants.{Script, Check, View, Draw}
use Rattle.heap_view.specs.declared.glance.Glance.{Glance}
use Rattle.g1heap.specs.Jobs.{DoesCheck, DoesDraw, DoesExplained, DoesJob, DoesView, glance_of}

-- a record that isn't read as it is written
pub unread_check : (name : List ℕ) (given left : Reader) (old new err err' : Writer) (status : ℕ)
    → FailsToGive reads.CannotRead given left → WritesNothing old new
    → TellsVerdict err err' (Err (faults.Read reads.CannotRead)) status → DoesCheck name false false given left old new err err' status
unread_check name given left old new err err' status unread kept tells =
    record { outcome = Err (faults.Read reads.CannotRead); judges = (unread, kept); tells = tells }

pub unread_explained : (name : List ℕ) (given left : Reader) (old new err err' : Writer) (status : ℕ)
    → FailsToGive reads.CannotRead given left → WritesNothing old new → status ≡ 1
    → TellsMore (faults.Read reads.CannotRead) (IsReadReason name) err err' → DoesCheck name true false given left old new err err' status
unread_explained name given left old new err err' status unread kept one tells =
    record { outcome = Err (faults.Read reads.CannotRead); explains = (unread, kept); tells = (one, tells) }

-- one that is
pub unread_followed : (name : List ℕ) (explained : Bool) (given left : Reader) (old new err err' : Writer) (status : ℕ)
    → FailsToGive reads.CannotRead given left → WritesNothing old new
    → TellsVerdict err err' (Err (faults.Read reads.CannotRead)) status → DoesCheck name explained true given left old new err err' status
unread_followed name false given left old new err err' status unread kept tells =
    record { outcome = Err (faults.Read reads.CannotRead); follows = (unread, kept); tells = tells }
unread_followed name true given left old new err err' status unread kept tells =
    record { outcome = Err (faults.Read reads.CannotRead); follows = (unread, kept); tells = tells }

unread_view : (recorded : Bool) (glance : Glance) (types : List ℕ) (given left : Reader) (old new err err' : Writer) (status : ℕ)
    → FailsToGive reads.CannotRead given left → WritesNothing old new
    → TellsEnd err err' (Err (faults.Read reads.CannotRead)) status → DoesView recorded glance types given left old new err err' status
unread_view false glance types given left old new err err' status unread kept tells =
    record { outcome = Err (faults.Read reads.CannotRead); views = (unread, kept); tells = tells }
unread_view true glance types given left old new err err' status unread kept tells =
    record { outcome = Err (faults.Read reads.CannotRead); views = (unread, kept); tells = tells }

unread_draw : (name names : List ℕ) (recorded : Bool) (every : ℕ) (given left : Reader) (old new err err' : Writer) (status : ℕ)
    → FailsToGive reads.CannotRead given left → WritesNothing old new
    → TellsEnd err err' (Err (faults.Read reads.CannotRead)) status → DoesDraw name names recorded every given left old new err err' status
unread_draw name names false every given left old new err err' status unread kept tells =
    record { outcome = Err (faults.Read reads.CannotRead); draws = (unread, kept); tells = tells }
unread_draw name names true every given left old new err err' status unread kept tells =
    record { outcome = Err (faults.Read reads.CannotRead); draws = (unread, kept); tells = tells }

-- the file of another task
pub unread_task : (name names types : List ℕ) (task : Task) (given left : Reader) (old new err err' : Writer) (status : ℕ)
    → ((followed : Bool) → task ≡ Check followed → ⊥) → FailsToGive reads.CannotRead given left → WritesNothing old new
    → TellsEnd err err' (Err (faults.Read reads.CannotRead)) status
    → DoesJob names types (name, task, false) given left old new err err' status
unread_task name names types (Script order) given left old new err err' status other unread kept tells =
    record { outcome = Err (faults.Read reads.CannotRead); ends = (unread, kept); tells = tells }
unread_task name names types (Check followed) given left old new err err' status other unread kept tells = absurd (other followed refl)
unread_task name names types (View recorded at viewed) given left old new err err' status other unread kept tells =
    unread_view recorded (glance_of at viewed) types given left old new err err' status unread kept tells
unread_task name names types (Draw every recorded) given left old new err err' status other unread kept tells =
    unread_draw name names recorded every given left old new err err' status unread kept tells

-- the same where it is to be explained
pub as_job : (name names types : List ℕ) (task : Task) (given left : Reader) (old new err err' : Writer) (status : ℕ)
    → ((followed : Bool) → task ≡ Check followed → ⊥) → DoesExplained name names types task given left old new err err' status
    → DoesJob names types (name, task, true) given left old new err err' status
as_job name names types (Script order) given left old new err err' status other does = does
as_job name names types (Check followed) given left old new err err' status other does = absurd (other followed refl)
as_job name names types (View recorded at viewed) given left old new err err' status other does = does
as_job name names types (Draw every recorded) given left old new err err' status other does = does

pub unread_more : (name names types : List ℕ) (task : Task) (given left : Reader) (old new err err' : Writer) (status : ℕ)
    → ((followed : Bool) → task ≡ Check followed → ⊥) → FailsToGive reads.CannotRead given left → WritesNothing old new → status ≡ 1
    → TellsMore (faults.Read reads.CannotRead) (IsReadReason name) err err'
    → DoesJob names types (name, task, true) given left old new err err' status
unread_more name names types task given left old new err err' status other unread kept one tells =
    as_job name names types task given left old new err err' status other
    (inr (record { fault = reads.CannotRead; fails = unread; stays = kept; one = one; tells = tells }))
