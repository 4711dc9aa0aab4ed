-- Free regions that lie side by side.
use Rattle.std.specs.Prelude.{◌≡◌, ◌+◌, ◌<◌, ◌≤◌, ℕ, length}
use Rattle.regions.specs.Table.{Table, kind_of}
use Rattle.regions.specs.declared.row.Kind.TheVariants as kinds

-- so many regions from one on are free
abbrev pub AreFree : Table → ℕ → ℕ → Type 0
AreFree t at n = (k : ℕ) → at ≤ k → k < at + n → kind_of t k ≡ kinds.Free

-- of the first regions so many are free side by side, and nowhere more
pub record IsLongest (t : Table) (regions n : ℕ) : Type 0 where
  pub at : ℕ
  pub within : at + n ≤ regions
  pub free : AreFree t at n
  pub most : (other m : ℕ) → other + m ≤ regions → AreFree t other m → m ≤ n

-- the same of all regions
abbrev pub IsLongestRun : Table → ℕ → Type 0
IsLongestRun t n = IsLongest t (length t.regions) n
