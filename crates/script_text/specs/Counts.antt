-- The digits of the counts of events.
use Rattle.std.specs.Prelude.{◌≡◌, ℕ, ◌+◌, ◌/◌, ◌%◌, ◌<◌, ◌≤◌, take}
use Rattle.std.specs.Fmt.{decimal}
use Rattle.script_text.specs.declared.write.counts.Count.{Count}

-- the last digit, and those of the tens before it
abbrev pub Spells : Count → ℕ → Type 0
Spells c n = (c.last ≡ 48 + n % 10) × (c.width ≤ 20) × (n < 10 → c.width ≡ 0) × (10 ≤ n → take c.width c.front ≡ decimal (n / 10))
