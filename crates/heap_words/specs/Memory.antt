-- The words of a heap, of which the first are written.
use Rattle.std.specs.Prelude.{ℕ, ◌-◌, ◌++◌, List, length, min, replicate, take}

-- all words, and how many of them, from the first one on, are written: those behind are 0
pub record Memory : Type 0 where
  pub all : List ℕ
  pub written : ℕ

-- so many words of which these are the written ones
abbrev pub memory : List ℕ → ℕ → Memory
memory words count = record { all = words ++ replicate (count - length words) 0; written = length words }

-- the words from an end on are 0, and none of them is written
abbrev pub cut_at : Memory → ℕ → Memory
cut_at m end = record { all = take end m.all ++ replicate (length m.all - end) 0; written = min end m.written }
