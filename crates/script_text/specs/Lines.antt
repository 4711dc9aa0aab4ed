-- The lines of a script, and the first fault.
use Rattle.std.specs.Prelude.{◌≡◌, ℕ, ◌+◌, ◌<◌, ◌≤◌, List, [], ◌∷◌, nat_lt, codes, length}
use Rattle.std.specs.Prelude.{Option, Some, None, Result, Ok, Err, ◌==◌, if◌then◌else◌}
use Rattle.std.specs.List.{slice_split}
use Rattle.std.specs.Str.{bytes_eq}
use Rattle.heap_words.specs.declared.config.Config.{Config}
use Rattle.heap_steps.specs.Actors.{StepList}
use Rattle.heap_steps.specs.declared.step.Step.{Step}
use Rattle.heap_steps.specs.declared.step.Step.TheVariants as steps
use Rattle.script_text.specs.declared.fault.Kind.{Kind}
use Rattle.script_text.specs.declared.fault.Kind.TheVariants as kinds
use Rattle.script_text.specs.declared.fault.LineFault.{LineFault}
use Rattle.script_text.specs.Reading.{number_of, small, allowed_of, collection_of, sizes_of}

infixl 10 ◌>>=◌
abbrev pub ◌>>=◌ : {A B E : Type 0} → Result A E → (A → Result B E) → Result B E
(Ok x) >>= f = f x
(Err e) >>= f = Err e

abbrev pub or_fault : {A : Type 0} → Option A → Kind → Result A Kind
or_fault None k = Err k
or_fault (Some x) k = Ok x

-- parted by single spaces
abbrev pub words_of : List ℕ → List (List ℕ)
words_of line = slice_split (λ b. b == 32) line

-- parted by line feeds; the last is what follows the last line feed
abbrev pub pieces_of : List ℕ → List (List ℕ)
pieces_of text = slice_split (λ b. b == 10) text

unfoldable pub mutator_of : Config → List ℕ → Result ℕ Kind
mutator_of c word = do
  m ← or_fault (number_of small word) kinds.BadActor
  if nat_lt m c.mutators then Ok m else Err kinds.BadActor

-- a step of its actor
unfoldable pub step_of : Config → List (List ℕ) → Result Step Kind
step_of c [] = Err kinds.BadActor
step_of c (actor ∷ rest) =
    if bytes_eq actor (codes "gc") then (do
      k ← or_fault (collection_of c.format rest) kinds.BadStep
      Ok (steps.Collector k))
    else (do
      m ← mutator_of c actor
      a ← or_fault (allowed_of c rest) kinds.BadStep
      Ok (steps.Mutator (record { mutator = m; action = a })))

-- a line of at most 120 bytes
unfoldable pub step_line_of : Config → List ℕ → Result Step Kind
step_line_of c line = if nat_lt 120 (length line) then Err kinds.LongLine else step_of c (words_of line)

unfoldable pub heap_line_of : List ℕ → Result Config Kind
heap_line_of line = if nat_lt 120 (length line) then Err kinds.LongLine else or_fault (sizes_of (words_of line)) kinds.BadHeap

-- a fault of line n
abbrev pub at : {A : Type 0} → ℕ → Result A Kind → Result A LineFault
at n (Ok x) = Ok x
at n (Err k) = Err (record { line = n; kind = k })

-- what the lines say from item n on: `read` says what a line does by its item's number, and `number` which line is an item's
unfoldable pub items_of : {A : Type 0} → (ℕ → List ℕ → Result A Kind) → (ℕ → ℕ) → ℕ → List (List ℕ) → Result (List A) LineFault
items_of read number n [] = Ok []
items_of read number n (last ∷ []) = if length last == 0 then Ok [] else Err (record { line = number n; kind = kinds.Cut })
items_of read number n (line ∷ next ∷ lines) = do
  x ← at (number n) (read n line)
  xs ← items_of read number (n + 1) (next ∷ lines)
  Ok (x ∷ xs)

-- what the lines of a text say, of which the first gives the sizes and the others what `rest` says by them
unfoldable pub headed : {Y : Type 0} → (Config → List (List ℕ) → Result Y LineFault) → List (List ℕ) → Result Y LineFault
headed rest [] = Err (record { line = 1; kind = kinds.BadHeap })
headed rest (last ∷ []) = Err (record { line = 1; kind = if length last == 0 then kinds.BadHeap else kinds.Cut })
headed rest (line ∷ next ∷ lines) = do
  c ← at 1 (heap_line_of line)
  rest c (next ∷ lines)

-- the steps of the lines from line n on
abbrev pub steps_of : ℕ → Config → List (List ℕ) → Result (List Step) LineFault
steps_of n c lines = items_of (λ k. step_line_of c) (λ k. k) n lines

-- the script of these sizes
abbrev pub script_by : Config → List (List ℕ) → Result StepList LineFault
script_by c lines = do
  ss ← steps_of 2 c lines
  Ok (record { config = c; steps = ss })

-- the script that a text spells, or its first fault
abbrev pub script_of : List ℕ → Result StepList LineFault
script_of text = headed script_by (pieces_of text)

-- Memory was refused while a line of the text was read: a line feed ends it, and neither it nor a line before it has a fault.
pub record StopsAt {Y : Type 0} (line : ℕ) (text : List ℕ) (read : Result Y LineFault) : Type 0 where
  pub counted : 1 ≤ line
  pub ended : line < length (pieces_of text)
  pub before : (first : LineFault) → read ≡ Err first → line < first.line

-- the fault is the text's first one, or want of memory at a line before that
abbrev pub FailsBy : {Y : Type 0} → Kind → LineFault → List ℕ → Result Y LineFault → Type 0
FailsBy kinds.NoMemory fault text read = StopsAt fault.line text read
FailsBy _ fault text read = read ≡ Err fault

-- what a function returned of a text is what reading it gives
abbrev pub Gives : {Y : Type 0} → Result Y LineFault → List ℕ → Result Y LineFault → Type 0
Gives (Ok x) text read = read ≡ Ok x
Gives (Err fault) text read = FailsBy fault.kind fault text read
