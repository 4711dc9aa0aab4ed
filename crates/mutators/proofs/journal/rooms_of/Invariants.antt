use Rattle.std.proofs.Common.{◌≡◌, ◌+◌, ◌≤◌, ℕ, length, take, get_or}
use Rattle.mutators.specs.Scripts.{scripted, lines_of}
use Rattle.mutators.proofs.journal.rooms_of.Given as goal

abbrev pub invariant-loop-step : goal.invariant-loop-step
invariant-loop-step l =
    (length l.rooms.items ≡ l.config.mutators + 1)
    × ((k : ℕ) → k ≤ l.config.mutators
    → get_or l.rooms.items k 0 ≡ length (lines_of (scripted l.config.mutators k) (take l.step-index l.steps)))
