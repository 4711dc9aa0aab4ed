-- Steps and replies in numbers, as C gives and takes them.
use Rattle.std.specs.Prelude.{ℕ, ◌+◌, Option, Some, None, if◌then◌else◌, ◌==◌}
use Rattle.heap_words.specs.declared.config.Config.{Config}
use Rattle.heap_words.specs.declared.config.Format.TheVariants.{V3}
use Rattle.heap_words.specs.declared.config.NewFault.{NewFault}
use Rattle.heap_words.specs.declared.config.NewFault.TheVariants as faults
use Rattle.heap_steps.specs.Forms.{refusal_number}
use Rattle.heap_steps.specs.declared.step.Register.{Register}
use Rattle.heap_steps.specs.declared.step.GlobalRoot.{GlobalRoot}
use Rattle.heap_steps.specs.declared.step.Counts.{Counts}
use Rattle.heap_steps.specs.declared.step.Action.{Action}
use Rattle.heap_steps.specs.declared.step.Step.{Step}
use Rattle.heap_steps.specs.declared.step.Step.TheVariants as steps
use Rattle.heap_steps.specs.declared.step.Reply.{Reply}
use Rattle.heap_steps.specs.declared.step.Reply.TheVariants as replies
use Rattle.heap_steps.specs.declared.step.Refusal.{Refusal}
use Rattle.heap_calls.specs.declared.answer.Answer.{Answer}
use Rattle.heap_calls.specs.declared.making.Sizes.{Sizes}

-- a code with two numbers
abbrev pub told : ℕ → ℕ → ℕ → Answer
told code first second = record { code = code; second = second; first = first }

-- the answer where numbers name no step of the heap, and where there is no heap
abbrev pub no_step : Answer
no_step = told 32 0 0

abbrev pub no_heap : Answer
no_heap = told 33 0 0

-- the answer where memory was refused
abbrev pub no_memory : Answer
no_memory = told 45 0 0

abbrev pub refused : Refusal → Answer
refused why = told (15 + refusal_number why) 0 0

-- a reply in numbers
abbrev pub numbers : Reply → Answer
numbers replies.Done = told 0 0 0
numbers (replies.Named None) = told 1 0 0
numbers (replies.Named (Some name)) = told 2 name 0
numbers (replies.Word value) = told 3 value 0
numbers (replies.Shape pointers values) = told 4 pointers values
numbers (replies.Marked count) = told 5 count 0
numbers (replies.Reclaimed count) = told 6 count 0
numbers (replies.Refined count) = told 7 count 0
numbers (replies.Moved regions words) = told 8 words regions
numbers (replies.Refused refusal) = refused refusal

-- the same, but that what is done is told by a count
abbrev pub counted : ℕ → Reply → Answer
counted count replies.Done = told 9 count 0
counted count reply = numbers reply

-- why no heap was made
abbrev pub fault_code : NewFault → ℕ
fault_code faults.BadRegions = 41
fault_code faults.BadWords = 42
fault_code faults.BadBuffer = 43
fault_code faults.BadMutators = 44
fault_code faults.NoMemory = 45
fault_code faults.BadCard = 46
fault_code faults.BadGlobals = 47
fault_code faults.BadRegisters = 48
fault_code faults.BadRoots = 49

-- the sizes of a heap of the third format
abbrev pub config_of : Sizes → Config
config_of s = record {
  format = V3 s.card s.globals s.registers;
  regions = s.regions;
  words = s.words;
  buffer = s.buffer;
  mutators = s.mutators;
  first_name = s.first_name;
}

-- a register, a global, and the counts of an object's fields, by their numbers
abbrev pub register : ℕ → Register
register n = record { number = n }

abbrev pub global : ℕ → GlobalRoot
global n = record { number = n }

abbrev pub counts : ℕ → ℕ → Counts
counts pointers values = record { pointers = pointers; values = values }

-- what is stored: nil, or what a register holds
abbrev pub value : ℕ → Option Register
value n = if n == 4294967295 then None else Some (register n)

-- a mutator takes a step
abbrev pub by : ℕ → Action → Step
by m action = steps.Mutator (record { mutator = m; action = action })
