-- Sets of numbers with bounds of their members.
use Rattle.std.specs.Prelude.{◌≡◌, ℕ, ◌<◌, ◌≤◌, true, Bool, List, length}
use Rattle.bit_sets.specs.Bits.{has}

-- each member is at or above low and below high
pub record AreWithin (flags : List Bool) (low high : ℕ) : Type 0 where
  pub inside : high ≤ length flags
  pub each : (a : ℕ) → has flags a ≡ true → (low ≤ a) × (a < high)
