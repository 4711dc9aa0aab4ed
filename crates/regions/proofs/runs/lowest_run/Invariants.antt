use Rattle.regions.proofs.Rows.Search.{IsScanned}
use Rattle.regions.proofs.runs.lowest_run.Given as goal

abbrev pub invariant-loop-i : goal.invariant-loop-i
invariant-loop-i l = IsScanned l.rows l.count l.start l.i
