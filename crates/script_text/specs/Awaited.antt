-- Lines that are taken as they are written.
use Rattle.std.specs.Prelude.{◌≡◌, ◌⊎◌, ◌<◌, ℕ, Bool, true, false, List, [], ◌∷◌, ◌++◌, length}
use Rattle.std.specs.Prelude.{Option, Some, None, Result, Ok, Err, ◌==◌, if◌then◌else◌}
use Rattle.std.specs.Io.KnownBytes.{IsAtEnd}
use Rattle.script_text.specs.Lines.{pieces_of}
use Rattle.script_text.specs.Watched.{Reader, Gives, FailsToGive}
use Rattle.script_text.specs.declared.read.awaited.NextFault.{NextFault}
use Rattle.script_text.specs.declared.read.awaited.NextFault.TheVariants as nexts
use Rattle.script_text.specs.declared.fault.Kind.{Kind}
use Rattle.script_text.specs.declared.fault.Kind.TheVariants as kinds

-- whether a line feed is in a text
abbrev pub has_feed : List ℕ → Bool
has_feed [] = false
has_feed (b ∷ text) = if b == 10 then true else has_feed text

-- a text without its cut last line: the bytes up to its last line feed
abbrev pub whole_lines : List ℕ → List ℕ
whole_lines [] = []
whole_lines (b ∷ text) = if has_feed (b ∷ text) then b ∷ whole_lines text else []

-- a line feed ends the line at the text's front, and the rest is after it
abbrev pub EndsLine : List ℕ → List ℕ → List ℕ → Type 0
EndsLine text line rest = pieces_of text ≡ line ∷ pieces_of rest

-- no line feed is in the text: its line isn't whole
abbrev pub IsUnended : List ℕ → Type 0
IsUnended text = pieces_of text ≡ text ∷ []

-- the line at the text's front is whole and has the fault, or it has more than 120 bytes already
abbrev pub IsWrong : {A : Type 0} → (List ℕ → Result A Kind) → List ℕ → Kind → Type 0
IsWrong read text kind =
    ((line : List ℕ) × (rest : List ℕ) × EndsLine text line rest × (read line ≡ Err kind))
    ⊎ (IsUnended text × (120 < length text) × (kind ≡ kinds.LongLine))

-- What the next line gave, where `read` says what a line gives. Bytes waited, the reader gave more after them, and others wait after: what
-- is after the line that was taken; at the end of input there is no whole line.
abbrev pub IsNext : {A : Type 0} → (List ℕ → Result A Kind) → List ℕ → List ℕ → Reader → Reader → Result (Option A) NextFault → Type 0
IsNext read waited waits given left (Ok (Some x)) =
    (more : List ℕ) × (line : List ℕ) × Gives given left more × EndsLine (waited ++ more) line waits × (read line ≡ Ok x)
IsNext read waited waits given left (Ok None) = (more : List ℕ) × Gives given left more × IsAtEnd left.left × IsUnended (waited ++ more)
IsNext read waited waits given left (Err (nexts.Line kind)) =
    (more : List ℕ) × Gives given left more × (waits ≡ waited ++ more) × IsWrong read waits kind
IsNext read waited waits given left (Err (nexts.Read fault)) = FailsToGive fault given left
