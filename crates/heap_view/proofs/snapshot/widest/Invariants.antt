use Rattle.std.proofs.Common.{◌≡◌, drop, max}
use Rattle.heap_view.specs.Snapshot.{widest}
use Rattle.heap_view.proofs.snapshot.widest.Given as goal

abbrev pub invariant-loop-class : goal.invariant-loop-class
invariant-loop-class l = max l.most (widest (drop l.class-index l.classes)) ≡ widest l.classes
