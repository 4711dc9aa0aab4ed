-- What is told after a fault's line where it is to be explained.
use Rattle.std.specs.Prelude.{◌≡◌, ◌⊎◌, ℕ, ◌+◌, ⊤, List, [], ◌∷◌, ◌++◌, Option, None, Some, Result, Ok, Err, codes, nat_lt, if◌then◌else◌}
use Rattle.std.specs.Prelude.{◌&&◌, ◌<◌, ◌^◌}
use Rattle.std.specs.Fmt.{decimal}
use Rattle.heap_words.specs.declared.config.Config.{Config}
use Rattle.heap_words.specs.declared.config.Format.{Format}
use Rattle.heap_words.specs.declared.config.Format.TheVariants.{V1, V2, V3}
use Rattle.heap_words.specs.declared.config.NewFault.{NewFault}
use Rattle.heap_words.specs.declared.config.NewFault.TheVariants as sizes
use Rattle.heap_steps.specs.declared.fault.RunFault.TheVariants as runs
use Rattle.script_text.specs.declared.fault.ReadFault.TheVariants as reads
use Rattle.script_text.specs.declared.fault.WriteFault.TheVariants as writes
use Rattle.script_text.specs.declared.expected.TextKind.{TextKind}
use Rattle.script_text.specs.Faults.{shown}
use Rattle.script_text.specs.Lines.{heap_line_of}
use Rattle.script_text.specs.Hints.{line_reason, IsLine, IsFaultReason, IsLineReason}
use Rattle.script_text.specs.Watched.{Writer, TookBytes, TakesPart, WritesNothing}
use Rattle.job_ends.specs.FaultLines.{fault_line}
use Rattle.job_ends.specs.declared.faults.JobFault.{JobFault}
use Rattle.job_ends.specs.declared.faults.JobFault.TheVariants as faults
use Rattle.job_ends.specs.declared.faults.JudgeFault.TheVariants as judges
use Rattle.jobs.specs.declared.causes.Counts.{Counts}

-- the word of a heap line that a heap can't have, and which it may have in this format
abbrev pub sizes_hint : Format → NewFault → List ℕ
sizes_hint V1 sizes.BadRegions = codes "word 2: 2 to 1024"
sizes_hint (V2 card) sizes.BadRegions = codes "word 2: 2 to 1024"
sizes_hint (V3 card globals registers) sizes.BadRegions = codes "word 2: 2 to 16384"
sizes_hint V1 sizes.BadWords = codes "word 3: a power of two, 16 to 4096, and at most 1048576 words in all regions"
sizes_hint (V2 card) sizes.BadWords = codes "word 3: a power of two, 16 to 16384, and at most 16777216 words in all regions"
sizes_hint (V3 card globals registers) sizes.BadWords =
    codes "word 3: a power of two, 16 to 4194304, and at most 2147483648 words in all regions"
sizes_hint format sizes.BadBuffer = codes "word 4: 4 or more, and at most half the words of a region"
sizes_hint V1 sizes.BadMutators = codes "word 5: 1 to 16"
sizes_hint (V2 card) sizes.BadMutators = codes "word 5: 1 to 16"
sizes_hint (V3 card globals registers) sizes.BadMutators = codes "word 5: 1 to 64"
sizes_hint format sizes.NoMemory = codes "the system has too little memory for a heap of these sizes"
sizes_hint V1 sizes.BadCard = codes "word 7: 8, 16, 32 or 64, and at most the words of a region"
sizes_hint (V2 card) sizes.BadCard = codes "word 7: 8, 16, 32 or 64, and at most the words of a region"
sizes_hint (V3 card globals registers) sizes.BadCard = codes "word 7: a power of two, 8 to 512, and at most the words of a region"
sizes_hint format sizes.BadGlobals = codes "word 8: 0 to 65536"
sizes_hint format sizes.BadRegisters = codes "word 9: 1 to 65536"
sizes_hint format sizes.BadRoots = codes "words 8 and 9: at most 1048576 roots in all, GLOBALS + REGISTERS * MUTATORS"

-- a text shows the heap line of the input, and says which of its numbers no heap can have
abbrev pub IsSizesReason : List ℕ → NewFault → List ℕ → Type 0
IsSizesReason input fault told = (first : List ℕ) (c : Config) → IsLine input 1 first → heap_line_of first ≡ Ok c
    → told ≡ line_reason 1 first (sizes_hint c.format fault)

-- an option's count, and its range
abbrev pub count_text : List ℕ → ℕ → List ℕ → List ℕ
count_text option count range = option ++ decimal count ++ range

-- which of the counts of background actors is out of its range
abbrev pub background_text : ℕ → ℕ → List ℕ
background_text refiners markers =
    if nat_lt 8 refiners then count_text (codes "--refiners ") refiners (codes ": 0 to 8\n")
    else count_text (codes "--markers ") markers (codes ": 0 to 8\n")

-- which count is out of its range, the first where there are more
abbrev pub counts_text : Option ℕ → ℕ → ℕ → List ℕ
counts_text None refiners markers = background_text refiners markers
counts_text (Some workers) refiners markers =
    if nat_lt 0 workers && nat_lt workers 33 then background_text refiners markers
    else count_text (codes "--workers ") workers (codes ": 1 to 32\n")

-- what is told of a fault that nothing in the text has brought about
abbrev pub reason_words : JobFault → List ℕ
reason_words (faults.Read reads.NoMemory) = codes "the system has too little memory to hold the text twice\n"
reason_words (faults.Run runs.NoMemory) = codes "the system has too little memory for the heap, the record or the page\n"
reason_words (faults.Write writes.NoMemory) = codes "the system has too little memory for the heap, the record or the page\n"
reason_words (faults.Run runs.NoWorker) = codes "the system lets the program start no thread\n"
reason_words (faults.Run runs.Unfinished) = codes "the threads have ended, and a script isn't at its end\n"
reason_words (faults.Judge judges.NoMemory) = codes "the system has too little memory for the graph of the record\n"
reason_words (faults.Write writes.CannotWrite) = codes "standard output is full or closed; a beginning of it may have gone out\n"
reason_words _ = []

-- A text explains a fault of a job on an input: a line of it with a fault, its sizes, a count, or an event with another reply.
abbrev pub IsReason : TextKind → List ℕ → Counts → JobFault → List ℕ → Type 0
IsReason kind input counts (faults.Line fault) told = IsFaultReason kind fault input told
IsReason kind input counts (faults.Run (runs.Heap fault)) told = IsSizesReason input fault told
IsReason kind input counts (faults.Judge (judges.Heap fault)) told = IsSizesReason input fault told
IsReason kind input counts (faults.Run runs.BadWorkers) told = told ≡ counts_text counts.workers counts.refiners counts.markers
IsReason kind input counts (faults.Differs event) told =
    event + 1 < 2 ^ 64 → IsLineReason (event + 1) input (codes "this heap gives another reply") told
IsReason kind input counts fault told = told ≡ reason_words fault

-- a text names a file that can't be read, and says why
abbrev pub IsReadReason : List ℕ → List ℕ → Type 0
IsReadReason name told = (why : List ℕ) × (told ≡ shown name ++ codes ": " ++ why ++ 10 ∷ [])

-- The fault's line and a text that explains it were written whole, or a beginning of both, and then the writer refused.
abbrev pub TellsMore : JobFault → (List ℕ → Type 0) → Writer → Writer → Type 0
TellsMore fault Explains old new = (told : List ℕ) × Explains told
    × (TookBytes old new (fault_line fault ++ told) ⊎ TakesPart old new (fault_line fault ++ told))

-- the status that tells how a job on an input ended, and what standard error took: nothing where it is done, else the fault's line and what
-- explains it
abbrev pub TellsExplained : TextKind → List ℕ → Counts → Writer → Writer → Result ⊤ JobFault → ℕ → Type 0
TellsExplained kind input counts old new (Ok done) status = (status ≡ 0) × WritesNothing old new
TellsExplained kind input counts old new (Err fault) status = (status ≡ 1) × TellsMore fault (IsReason kind input counts fault) old new
