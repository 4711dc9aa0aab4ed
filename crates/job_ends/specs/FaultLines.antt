-- The lines on standard error, one for each fault.
use Rattle.std.specs.Prelude.{ℕ, ◌⊎◌, List, [], ◌∷◌, ◌++◌, codes}
use Rattle.std.specs.Fmt.{decimal}
use Rattle.heap_words.specs.declared.config.NewFault.{NewFault}
use Rattle.heap_words.specs.declared.config.NewFault.TheVariants as sizes
use Rattle.script_text.specs.Faults.{fault_text}
use Rattle.script_text.specs.Watched.{Writer, TookBytes, TakesPart}
use Rattle.script_text.specs.declared.fault.WriteFault.{WriteFault}
use Rattle.script_text.specs.declared.fault.WriteFault.TheVariants as writes
use Rattle.heap_steps.specs.declared.fault.RunFault.{RunFault}
use Rattle.heap_steps.specs.declared.fault.RunFault.TheVariants as runs
use Rattle.job_ends.specs.declared.faults.JobFault.{JobFault}
use Rattle.job_ends.specs.declared.faults.JobFault.TheVariants.{Read, Line, Run, Judge, Write, Differs}
use Rattle.job_ends.specs.declared.faults.JudgeFault.{JudgeFault}
use Rattle.job_ends.specs.declared.faults.JudgeFault.TheVariants as judges

abbrev pub sizes_words : NewFault → List ℕ
sizes_words sizes.BadRegions = codes "heap: 1 BadRegions"
sizes_words sizes.BadWords = codes "heap: 2 BadWords"
sizes_words sizes.BadBuffer = codes "heap: 3 BadBuffer"
sizes_words sizes.BadMutators = codes "heap: 4 BadMutators"
sizes_words sizes.NoMemory = codes "heap: 5 NoMemory"
sizes_words sizes.BadCard = codes "heap: 6 BadCard"
sizes_words sizes.BadGlobals = codes "heap: 7 BadGlobals"
sizes_words sizes.BadRegisters = codes "heap: 8 BadRegisters"
sizes_words sizes.BadRoots = codes "heap: 9 BadRoots"

abbrev pub run_words : RunFault → List ℕ
run_words runs.BadWorkers = codes "run: 1 BadWorkers"
run_words runs.NoMemory = codes "run: 2 NoMemory"
run_words runs.NoWorker = codes "run: 3 NoWorker"
run_words runs.Unfinished = codes "run: 4 Unfinished"
run_words (runs.Heap fault) = sizes_words fault

-- want of memory while a record is judged is the judge's own
abbrev pub judge_words : JudgeFault → List ℕ
judge_words (judges.Heap fault) = sizes_words fault
judge_words judges.NoMemory = codes "check: NoMemory"

-- want of memory for the record is a run's
abbrev pub write_words : WriteFault → List ℕ
write_words writes.CannotWrite = codes "cannot write"
write_words writes.NoMemory = codes "run: 2 NoMemory"

-- a heap gives another reply to this event of a record
abbrev pub event_words : ℕ → List ℕ
event_words event = codes "event " ++ decimal event ++ codes ": 1 OtherReply"

abbrev pub fault_words : JobFault → List ℕ
fault_words (Read fault) = codes "cannot read"
fault_words (Line fault) = fault_text fault
fault_words (Run fault) = run_words fault
fault_words (Judge fault) = judge_words fault
fault_words (Write fault) = write_words fault
fault_words (Differs event) = event_words event

abbrev pub fault_line : JobFault → List ℕ
fault_line fault = codes "g1heap: " ++ fault_words fault ++ 10 ∷ []

-- the fault's line was written whole, or a beginning of it, and then the writer refused
abbrev pub TellsLine : JobFault → Writer → Writer → Type 0
TellsLine fault old new = TookBytes old new (fault_line fault) ⊎ TakesPart old new (fault_line fault)
