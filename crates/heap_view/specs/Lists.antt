-- Lists as lines.
use Rattle.std.specs.Prelude.{ℕ, ◌==◌, List, [], ◌++◌, length, codes, flat_map, if◌then◌else◌}

-- a title and all items of a list, as a line; nothing of an empty one
abbrev pub titled_line : {A : Type 0} → List ℕ → (A → List ℕ) → List A → List ℕ
titled_line title text xs = if length xs == 0 then [] else title ++ flat_map text xs ++ codes "\n"
