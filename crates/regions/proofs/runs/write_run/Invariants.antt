use Rattle.regions.proofs.Common.{◌≡◌, paste, run_rows}
use Rattle.regions.proofs.runs.write_run.Given as goal

abbrev pub invariant-loop-i : goal.invariant-loop-i
invariant-loop-i l = l.rows ≡ paste l.fn.rows l.at (run_rows l.size l.words 0 l.count) l.i
