-- Texts that are put together piece by piece. Such a text is its bytes, or None once memory was refused for it.
use Rattle.std.specs.Prelude.{◌≡◌, ℕ, List, [], ◌++◌, Option, Some, None, ⊤, Bool, false, length, codes}
use Rattle.std.specs.Str.{bytes_eq}
use Rattle.std.specs.Fmt.{decimal}

-- memory was refused, or the new text is the old one with a piece at its end
abbrev pub Adds : Option (List ℕ) → List ℕ → Option (List ℕ) → Type 0
Adds old piece None = ⊤
Adds old piece (Some bytes) = (before : List ℕ) × (old ≡ Some before) × (bytes ≡ before ++ piece)

-- the same of another text as the piece: where memory was refused for that one, it was refused for the new one
abbrev pub AddsText : Option (List ℕ) → Option (List ℕ) → Option (List ℕ) → Type 0
AddsText old None new = new ≡ None
AddsText old (Some piece) new = Adds old piece new

-- the text without its bytes
abbrev pub emptied : Option (List ℕ) → Option (List ℕ)
emptied None = None
emptied (Some bytes) = Some []

-- how many bytes a text has, none where memory was refused
abbrev pub text_length : Option (List ℕ) → ℕ
text_length None = 0
text_length (Some bytes) = length bytes

-- whether two texts have their bytes, and the same ones
abbrev pub are_same : Option (List ℕ) → Option (List ℕ) → Bool
are_same (Some a) (Some b) = bytes_eq a b
are_same _ _ = false

-- a number with a space before it
abbrev pub spaced_number : ℕ → List ℕ
spaced_number n = codes " " ++ decimal n
