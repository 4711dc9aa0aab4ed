-- Where the whole lines of what waits end.
use Rattle.std.specs.Prelude.{◌≡◌, ◌<◌, ◌≤◌, ◌-◌, ℕ, List, get_or}

-- Of the bytes between `start` and `end` the whole lines end at `whole`: a line feed is before it, and none after.
pub record EndsWhole (bytes : List ℕ) (start whole end : ℕ) : Type 0 where
  pub begun : start ≤ whole
  pub within : whole ≤ end
  pub feed : start < whole → get_or bytes (whole - 1) 0 ≡ 10
  pub clear : (k : ℕ) → whole ≤ k → k < end → get_or bytes k 0 ≡ 10 → ⊥
