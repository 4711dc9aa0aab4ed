-- How many words an object has, and which of them holds a field.
use Rattle.std.specs.Prelude.{ℕ, ◌+◌}

-- one of so many pointers, slots (weak ones and held ones) and data words: its header, its name, and these
abbrev pub size_of : ℕ → ℕ → ℕ → ℕ
size_of pointers slots values = 2 + pointers + slots + values

-- the word of a field: behind the object's header and its name
abbrev pub field_word : ℕ → ℕ → ℕ
field_word at index = at + 2 + index
