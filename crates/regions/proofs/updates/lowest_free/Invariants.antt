use Rattle.regions.specs.Rows.{AreUsedBelow}
use Rattle.regions.proofs.updates.lowest_free.Given as goal

abbrev pub invariant-loop-i : goal.invariant-loop-i
invariant-loop-i l = AreUsedBelow l.i l.rows
