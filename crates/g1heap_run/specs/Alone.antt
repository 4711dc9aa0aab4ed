-- The words of a program that runs scripts and does nothing else, and what it does with them.
use Rattle.std.specs.Prelude.{◌≡◌, ◌≢◌, ◌⊎◌, ℕ, List, [], ◌∷◌, ◌++◌, codes}
use Rattle.heap_steps.specs.Faults.{IsRunFault}
use Rattle.job_ends.specs.Runs.{Performs}
use Rattle.script_text.specs.Watched.{Reader, Writer, TookBytes, TakesPart, WritesNothing}
use Rattle.step_core.specs.Passages.{IsRunInOrder}

-- a word that is a path: a hyphen alone, or one that doesn't begin with a hyphen
abbrev pub IsPathWord : List ℕ → Type 0
IsPathWord word = (word ≡ codes "-") ⊎ ((rest : List ℕ) → word ≢ codes "-" ++ rest)

-- the words, the program's name first, ask for the run of the script at a path
abbrev pub AskForRun : List (List ℕ) → List ℕ → Type 0
AskForRun words path = ((name : List ℕ) × (words ≡ name ∷ codes "run" ∷ path ∷ [])) × IsPathWord path

-- The script at a path was run in the order of its lines, and that was told: the one on the program's own input where the path is a hyphen;
-- else one on some input, and the program's own stayed unread.
abbrev pub RunsScript : List ℕ → Reader → Reader → Writer → Writer → Writer → Writer → ℕ → Type 0
RunsScript path input input' old new err err' status = (given : Reader) × (left : Reader)
    × (path ≡ codes "-" → (given ≡ input) × (left ≡ input')) × (path ≢ codes "-" → input' ≡ input)
    × Performs IsRunInOrder IsRunFault given left old new err err' status

-- the line that tells which words the program takes
abbrev pub words_line : List ℕ
words_line = codes "g1heap_run: it takes the words 'run FILE' alone, with - for standard input; ./g1heap has the rest\n"

-- that line was written whole, or a beginning of it, and then the writer refused
abbrev pub TellsWords : Writer → Writer → Type 0
TellsWords old new = TookBytes old new words_line ⊎ TakesPart old new words_line

-- The words were refused with that line, and status 2; nothing was read, and nothing else written.
pub record RefusesWords (input input' : Reader) (old new err err' : Writer) (status : ℕ) : Type 0 where
  pub two : status ≡ 2
  pub unread : input' ≡ input
  pub stays : WritesNothing old new
  pub tells : TellsWords err err'
