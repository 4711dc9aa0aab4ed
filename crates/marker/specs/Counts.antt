-- How many objects were scanned.
use Rattle.std.specs.Prelude.{◌≡◌, ℕ, ◌+◌, ◌%◌, ◌^◌}

-- since marking began, and in all, modulo 2 ^ 64
pub record ScanTotals : Type 0 where
  pub since : ℕ
  pub total : ℕ

-- one object more
abbrev pub added : ScanTotals → ScanTotals
added s = record { since = s.since + 1; total = (s.total + 1) % 2 ^ 64 }

-- marking begins
abbrev pub restarted : ScanTotals → ScanTotals
restarted s = record { since = 0; total = s.total }

-- n objects more
pub record IsMore (s s' : ScanTotals) (n : ℕ) : Type 0 where
  pub since : s'.since ≡ s.since + n
  pub total : s'.total % 2 ^ 64 ≡ (s.total + n) % 2 ^ 64
