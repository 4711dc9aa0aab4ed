use Rattle.std.proofs.Common.{◌≡◌}
use Rattle.step_core.proofs.Pauses.Within.{AreTaken}
use Rattle.step_core.proofs.within.take_within.Given as goal

abbrev pub invariant-loop-place : goal.invariant-loop-place
invariant-loop-place l = record {
  taken : AreTaken l.sets l.cards l.fn.rows l.rows l.count l.place l.left;
  room : l.room ≡ l.fn.room;
}
