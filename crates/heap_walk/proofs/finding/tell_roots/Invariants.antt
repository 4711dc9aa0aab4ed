use Rattle.std.proofs.Common.{◌≤◌, length}
use Rattle.heap_walk.specs.Walks.{IsTelling}
use Rattle.heap_walk.specs.Holders.{holders_at}
use Rattle.heap_walk.proofs.finding.tell_roots.Given as goal

abbrev pub invariant-loop-place : goal.invariant-loop-place
invariant-loop-place l = record {
  telling : IsTelling (holders_at l.core l.name) l.fn.from l.place l.initial.out l.out l.count;
  room : l.count ≤ length l.initial.out;
}
