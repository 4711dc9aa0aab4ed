-- Flags of which the first are written.
use Rattle.std.specs.Prelude.{ℕ, ◌≡◌, ◌≤◌, ◌-◌, ◌++◌, Bool, List, false, length, replicate, slice_index_or}

-- the flags of so many cards, of which these are written: the others are clear
abbrev pub flags_of : List Bool → ℕ → List Bool
flags_of written count = written ++ replicate (count - length written) false

-- each flag from n on is clear
abbrev pub AreClearFrom : ℕ → List Bool → Type 0
AreClearFrom n flags = (k : ℕ) → n ≤ k → slice_index_or flags k false ≡ false
