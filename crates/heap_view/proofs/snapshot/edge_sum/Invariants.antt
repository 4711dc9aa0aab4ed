use Rattle.std.proofs.Common.{◌≡◌, sum_by, take}
use Rattle.heap_view.specs.Snapshot.{edges_from}
use Rattle.heap_view.proofs.snapshot.edge_sum.Given as goal

abbrev pub invariant-loop-start : goal.invariant-loop-start
invariant-loop-start l = l.sum ≡ sum_by (edges_from l.core) (take l.start-index l.items)
