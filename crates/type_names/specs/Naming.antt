-- The types that a text names, line by line.
use Rattle.std.specs.Prelude.{◌≡◌, ℕ, ◌+◌, ◌==◌, Bool, List, [], ◌∷◌, ◌++◌, Option, Some, None, Result, Ok, Err}
use Rattle.std.specs.Prelude.{find, if◌then◌else◌, is_some, option_and_then, option_map}
use Rattle.std.specs.Str.{bytes_eq}
use Rattle.script_text.specs.Lines.{◌>>=◌, pieces_of}
use Rattle.type_names.specs.NamedLines.{TypeName, is_passed, type_in}
use Rattle.type_names.specs.declared.faults.Mistake.{Mistake}
use Rattle.type_names.specs.declared.faults.Mistake.TheVariants.{NamedTwice}
use Rattle.type_names.specs.declared.faults.TypesFault.{TypesFault}
use Rattle.type_names.specs.declared.faults.TypesFault.TheVariants.{Line}

-- the name of a word among types
abbrev pub name_among : List TypeName → ℕ → Option (List ℕ)
name_among ts w = option_map (λ t. t.name) (find (λ t. t.word == w) ts)

-- the first word among types that has a name
abbrev pub word_among : List TypeName → List ℕ → Option ℕ
word_among ts name = option_map (λ t. t.word) (find (λ t. bytes_eq t.name name) ts)

-- types with one more, whose word has no name yet
abbrev pub with_type : List TypeName → TypeName → Result (List TypeName) Mistake
with_type ts t = if is_some (name_among ts t.word) then Err NamedTwice else Ok (ts ++ t ∷ [])

-- the same with what was read of a line
abbrev pub with_read : List TypeName → Result TypeName Mistake → Result (List TypeName) Mistake
with_read ts (Ok t) = with_type ts t
with_read ts (Err mistake) = Err mistake

-- types with what a line says, unless it is passed over
abbrev pub with_line : List TypeName → List ℕ → Result (List TypeName) Mistake
with_line ts line = if is_passed line then Ok ts else with_read ts (type_in line)

-- a mistake of line n
abbrev pub in_line : ℕ → Result (List TypeName) Mistake → Result (List TypeName) TypesFault
in_line n (Ok ts) = Ok ts
in_line n (Err mistake) = Err (Line n mistake)

-- types with what lines say, from line n on, or the first mistake
abbrev pub types_from : ℕ → List TypeName → List (List ℕ) → Result (List TypeName) TypesFault
types_from n ts [] = Ok ts
types_from n ts (line ∷ lines) = do
  more ← in_line n (with_line ts line)
  types_from (n + 1) more lines

-- the types that a text names, or its first mistake
abbrev pub types_of : List ℕ → Result (List TypeName) TypesFault
types_of text = types_from 1 [] (pieces_of text)

-- a text names types, and has no mistake
abbrev pub NamesTypes : List ℕ → Type 0
NamesTypes text = (ts : List TypeName) × (types_of text ≡ Ok ts)

-- the types that a text names, none where it has a mistake
abbrev pub known : Result (List TypeName) TypesFault → List TypeName
known (Ok ts) = ts
known (Err fault) = []

-- the name that a text gives a word, and the first word to which it gives a name
abbrev pub name_in : List ℕ → ℕ → Option (List ℕ)
name_in text w = name_among (known (types_of text)) w

abbrev pub first_in : List ℕ → List ℕ → Option ℕ
first_in text name = word_among (known (types_of text)) name

-- the first word that has the name of this one, if that has a name
abbrev pub first_for : List ℕ → ℕ → Option ℕ
first_for text w = option_and_then (first_in text) (name_in text w)
