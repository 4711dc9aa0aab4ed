use Rattle.regions.proofs.Common.{◌≡◌, replicate, paste, free_row}
use Rattle.regions.proofs.updates.write_free.Given as goal

abbrev pub invariant-loop-i : goal.invariant-loop-i
invariant-loop-i l = l.rows ≡ paste l.fn.rows l.at (replicate l.count free_row) l.i
