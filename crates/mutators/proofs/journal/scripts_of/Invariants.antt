use Rattle.std.proofs.Common.{◌≡◌, ◌+◌, ◌≤◌, ℕ, length, take, map, get_or, [], vec_capacity}
use Rattle.mutators.specs.Scripts.{scripted, lines_of}
use Rattle.mutators.proofs.journal.scripts_of.Given as goal

abbrev pub invariant-loop-step : goal.invariant-loop-step
invariant-loop-step l =
    (length l.scripts.items ≡ l.config.mutators + 1)
    × ((k : ℕ) → k ≤ l.config.mutators
    → get_or (map (λ s. s.items) l.scripts.items) k [] ≡ lines_of (scripted l.config.mutators k) (take l.step-index l.steps))
    × (map (λ s. vec_capacity s) l.scripts.items ≡ l.rooms.items)
