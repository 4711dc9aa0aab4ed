-- The deletion logs, as contracts see them: a list of addresses for each mutator.
use Rattle.std.specs.Prelude.{ℕ, List, [], slice_index_or}
use Rattle.std.specs.List.{concat}

-- the log of a mutator
abbrev pub log_of : List (List ℕ) → ℕ → List ℕ
log_of logs mutator = slice_index_or logs mutator []

-- what is in the logs, in all
abbrev pub logged : List (List ℕ) → List ℕ
logged logs = concat logs
