-- Sets of numbers with a set above them that has, of each group of 64 numbers, whether one is in the set.
use Rattle.std.specs.Prelude.{◌≡◌, ℕ, ◌*◌, ◌/◌, Bool, true, false, List, length}
use Rattle.std.specs.Int.{div_ceil}
use Rattle.bit_sets.specs.Bits.{has, IsLowest}

-- a number of the group passes the test
pub record HasMember (test : ℕ → Bool) (group : ℕ) : Type 0 where
  pub number : ℕ
  pub inside : number / 64 ≡ group
  pub is_in : test number ≡ true

-- no number of the group passes the test
abbrev pub HasNoMember : (ℕ → Bool) → ℕ → Type 0
HasNoMember test group = (a : ℕ) → a / 64 ≡ group → test a ≡ false

-- the lowest number of the group that passes the test
pub record IsMember (test : ℕ → Bool) (group found : ℕ) : Type 0 where
  pub inside : found / 64 ≡ group
  pub lowest : IsLowest test (64 * group) found

-- the groups with a number that passes the test, and no others
pub record IsSummary (test : ℕ → Bool) (groups : List Bool) : Type 0 where
  pub each : (a : ℕ) → test a ≡ true → has groups (a / 64) ≡ true
  pub only : (i : ℕ) → has groups i ≡ true → HasMember test i

-- the groups of a set, and the groups of these
pub record AreLevels (members groups blocks : List Bool) : Type 0 where
  pub group_count : length groups ≡ div_ceil (length members) 64
  pub block_count : length blocks ≡ div_ceil (length groups) 64
  pub group_summary : IsSummary (has members) groups
  pub block_summary : IsSummary (has groups) blocks
