-- How a page tells the name of the file that it was drawn of, and names for shapes.
use Rattle.std.specs.Prelude.{◌≡◌, ◌<◌, ◌+◌, ◌/◌, ◌%◌, ◌==◌, ◌||◌, ◌&&◌, ◌⊎◌, ℕ, Bool, true, if◌then◌else◌, List, [], ◌∷◌, ◌++◌}
use Rattle.std.specs.Prelude.{codes, flat_map, nat_le, nat_lt}

-- whether a byte is from one code to another
abbrev pub is_from_to : ℕ → ℕ → ℕ → Bool
is_from_to first last b = nat_le first b && nat_le b last

-- whether a byte of a name is told as itself: a letter, a digit, or one of - . / _ ~
abbrev pub is_plain : ℕ → Bool
is_plain b = is_from_to 97 122 b || is_from_to 65 90 b || is_from_to 45 57 b || b == 95 || b == 126

-- a digit to the base 16: 0 to 9, A to F
abbrev pub digit_text : ℕ → ℕ
digit_text n = if nat_lt n 10 then 48 + n else 55 + n

-- a byte of a name: itself, or % and its two digits to the base 16
abbrev pub byte_text : ℕ → List ℕ
byte_text b = if is_plain b then b ∷ [] else 37 ∷ digit_text (b / 16) ∷ digit_text (b % 16) ∷ []

-- a name, byte by byte
abbrev pub name_text : List ℕ → List ℕ
name_text name = flat_map byte_text name

-- a byte
abbrev pub IsByte : ℕ → Type 0
IsByte b = b < 256

-- a byte that has no meaning in HTML and ends no line: one that is told as itself, or %
abbrev pub IsSafe : ℕ → Type 0
IsSafe b = (is_plain b ≡ true) ⊎ (b ≡ 37)

-- what a page says of the file that it was drawn of
abbrev pub file_text : List ℕ → List ℕ
file_text name = codes "file " ++ name_text name ++ codes "\n"

-- what a page says of names for shapes: a line that has their text byte by byte, and nothing where there are none
abbrev pub names_text : List ℕ → List ℕ
names_text [] = []
names_text (b ∷ names) = codes "names " ++ name_text (b ∷ names) ++ codes "\n"
