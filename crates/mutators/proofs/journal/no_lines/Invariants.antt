use Rattle.std.proofs.Common.{◌≡◌, map, take, [], vec_capacity}
use Rattle.std.specs.Prelude.{replicate}
use Rattle.mutators.proofs.journal.no_lines.Given as goal

abbrev pub invariant-loop-room : goal.invariant-loop-room
invariant-loop-room l =
    (map (λ s. s.items) l.scripts.items ≡ replicate l.room-index [])
    × (map (λ s. vec_capacity s) l.scripts.items ≡ take l.room-index l.rooms)
