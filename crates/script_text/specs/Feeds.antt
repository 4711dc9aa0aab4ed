-- Line feeds.
use Rattle.std.specs.Prelude.{ℕ, List, ◌==◌, take}
use Rattle.std.specs.List.{position_or_len}

-- where the line at the front of a text ends
abbrev pub end_of : List ℕ → ℕ
end_of text = position_or_len (λ b. b == 10) text

-- the line at the front of a text
abbrev pub line_of : List ℕ → List ℕ
line_of text = take (end_of text) text
