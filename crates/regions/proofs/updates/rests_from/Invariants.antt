use Rattle.regions.proofs.LongRuns.RunGone.{IsCounted}
use Rattle.regions.proofs.updates.rests_from.Given as goal

abbrev pub invariant-loop-i : goal.invariant-loop-i
invariant-loop-i l = IsCounted l.rows l.from l.i
