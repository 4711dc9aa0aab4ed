-- What is told of a line with a mistake.
use Rattle.std.specs.Prelude.{◌⊎◌, ℕ, List, [], ◌∷◌, ◌++◌, codes}
use Rattle.std.specs.Fmt.{decimal}
use Rattle.script_text.specs.Faults.{shown}
use Rattle.script_text.specs.Watched.{Writer, TookBytes, TakesPart}
use Rattle.type_names.specs.declared.faults.Mistake.{Mistake}
use Rattle.type_names.specs.declared.faults.Mistake.TheVariants.{BadText, BadWord, NoName, NamedTwice}

-- a mistake's number and its name
abbrev pub mistake_text : Mistake → List ℕ
mistake_text BadText = codes "1 BadText"
mistake_text BadWord = codes "2 BadWord"
mistake_text NoName = codes "3 NoName"
mistake_text NamedTwice = codes "4 NamedTwice"

-- what a line with a mistake lacks
abbrev pub mistake_reason : Mistake → List ℕ
mistake_reason BadText = codes "a line is UTF-8 text without control characters"
mistake_reason BadWord = codes "a line begins with a data word, 0 to 18446744073709551615, and a space"
mistake_reason NoName = codes "after the word come a space and its name"
mistake_reason NamedTwice = codes "a line before it names this word"

-- the fault's line, and one with the file's name that says what its line lacks
abbrev pub types_text : ℕ → Mistake → List ℕ → List ℕ
types_text line mistake name = codes "g1heap: types: line " ++ decimal line ++ codes ": " ++ mistake_text mistake ++ codes "\n"
    ++ shown name ++ codes ": " ++ mistake_reason mistake ++ codes "\n"

-- These lines were written whole, or a beginning of them, and then the writer refused.
abbrev pub TellsTypes : ℕ → Mistake → List ℕ → Writer → Writer → Type 0
TellsTypes line mistake name old new = TookBytes old new (types_text line mistake name) ⊎ TakesPart old new (types_text line mistake name)
