-- Names of types: objects whose first data word has a name in a text are of that type.
use Rattle.std.specs.Prelude.{◌==◌, ◌||◌, ℕ, List, [], ◌∷◌, Option, None, flat_map, if◌then◌else◌, map}
use Rattle.std.specs.Option.{option_map_or}
use Rattle.type_names.specs.Naming.{first_for, name_in}
use Rattle.heap_view.specs.declared.classes.Class.{Class}

-- the name that a text gives a class: that of its first data word, if its objects have one
abbrev pub type_of : List ℕ → Class → Option (List ℕ)
type_of types k = if k.values == 0 then None else name_in types k.word

-- the first word with the name of a class, if that has a name
abbrev pub type_word : List ℕ → Class → Option ℕ
type_word types k = if k.values == 0 then None else first_for types k.word

-- the class of objects of one data word and nothing else
abbrev pub word_class : ℕ → Class
word_class w = record { pointers = 0; weaks = 0; values = 1; word = w }

-- the class under which objects of a class are listed: all of one name are listed together, whatever fields they have
abbrev pub listed_class : List ℕ → Class → Class
listed_class types k = option_map_or word_class (type_word types k) k

-- a byte of a text of JSON: a quote and a backslash have a backslash before them
abbrev pub escaped_byte : ℕ → List ℕ
escaped_byte b = if b == 34 || b == 92 then 92 ∷ b ∷ [] else b ∷ []

abbrev pub escaped : List ℕ → List ℕ
escaped name = flat_map escaped_byte name
