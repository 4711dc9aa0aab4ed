-- A line of a text that names types: a word, a space, and the word's name.
use Rattle.std.specs.Prelude.{ℕ, ◌+◌, ◌==◌, ◌&&◌, ◌||◌, Bool, true, false, not, nat_lt, List, [], ◌∷◌, Option, Some, None}
use Rattle.std.specs.Prelude.{Result, Ok, Err, drop, length, take, if◌then◌else◌}
use Rattle.std.specs.List.{position_or_len}
use Rattle.std.specs.Str.{is_utf8}
use Rattle.script_text.specs.Reading.{large, number_of}
use Rattle.type_names.specs.declared.faults.Mistake.{Mistake}
use Rattle.type_names.specs.declared.faults.Mistake.TheVariants.{BadText, BadWord, NoName}

-- a word, and its name
pub record TypeName : Type 0 where
  pub word : ℕ
  pub name : List ℕ

-- whether a byte ends a control character, after the byte before it: those of ASCII have one byte, U+0080 to U+009F two
abbrev pub is_control : ℕ → ℕ → Bool
is_control before b = nat_lt b 32 || b == 127 || (before == 194 && nat_lt b 160)

-- whether bytes have no control character, after the byte before them
abbrev pub is_plain : ℕ → List ℕ → Bool
is_plain before [] = true
is_plain before (b ∷ bs) = not (is_control before b) && is_plain b bs

-- whether a line is UTF-8 text without control characters
abbrev pub is_text : List ℕ → Bool
is_text line = is_utf8 line && is_plain 0 line

-- where a line's first space is, or its end
abbrev pub space_in : List ℕ → ℕ
space_in line = position_or_len (λ b. b == 32) line

-- the word that is before the first space, if it is one, and what is after that space
abbrev pub word_in : List ℕ → Option ℕ
word_in line = number_of large (take (space_in line) line)

abbrev pub rest_in : List ℕ → List ℕ
rest_in line = drop (space_in line + 1) line

-- a word with a name, which isn't empty
abbrev pub type_by : Option ℕ → List ℕ → Result TypeName Mistake
type_by None name = Err BadWord
type_by (Some w) [] = Err NoName
type_by (Some w) (b ∷ bs) = Ok (record { word = w; name = b ∷ bs })

-- what a line says
abbrev pub type_in : List ℕ → Result TypeName Mistake
type_in line = if is_text line then type_by (word_in line) (rest_in line) else Err BadText

-- whether a line is passed over: an empty one, or a comment
abbrev pub is_passed : List ℕ → Bool
is_passed [] = true
is_passed (b ∷ bs) = b == 35
