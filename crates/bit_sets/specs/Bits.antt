-- Sets of numbers, as contracts see them: a flag for each number.
use Rattle.std.specs.Prelude.{◌≡◌, ℕ, ◌+◌, ◌*◌, ◌%◌, ◌<◌, ◌≤◌, Bool, true, false, ◌&&◌, not, nat_lt, nat_le, List, slice_index_or}

-- whether the set has a number: false past the end
abbrev pub has : List Bool → ℕ → Bool
has flags number = slice_index_or flags number false

-- whether the one set has a number, and the other not
abbrev pub has_alone : List Bool → List Bool → ℕ → Bool
has_alone flags other number = has flags number && not (has other number)

-- whether a number is at or above from and below to
abbrev pub is_between : ℕ → ℕ → ℕ → Bool
is_between from to number = nat_le from number && nat_lt number to

-- whether a number's place is taken in each of two groups of a filter
abbrev pub is_passing : List Bool → ℕ → ℕ → ℕ → Bool
is_passing filter first second number = has filter (64 * first + number % 64) && has filter (64 * second + number % 64)

-- no number that passes the test is at or above from
abbrev pub HasNone : (ℕ → Bool) → ℕ → Type 0
HasNone test from = (a : ℕ) → from ≤ a → test a ≡ false

-- no number that passes the test is at or above from and below to
abbrev pub HasNoneBelow : (ℕ → Bool) → ℕ → ℕ → Type 0
HasNoneBelow test from to = (a : ℕ) → from ≤ a → a < to → test a ≡ false

-- the lowest number at or above from that passes the test
pub record IsLowest (test : ℕ → Bool) (from found : ℕ) : Type 0 where
  pub at_least : from ≤ found
  pub is_in : test found ≡ true
  pub lowest : (a : ℕ) → from ≤ a → a < found → test a ≡ false
