use Rattle.std.proofs.Common.{◌≡◌, ℕ, take}
use Rattle.evacuation.specs.Evacuates.{is_chosen}
use Rattle.evacuation.specs.Space.{flag}
use Rattle.evacuation.proofs.room.flag_chosen.Given as goal

abbrev pub invariant-loop-row : goal.invariant-loop-row
invariant-loop-row l = (k : ℕ) → flag l.set k ≡ is_chosen (take l.row-index l.rows) k
