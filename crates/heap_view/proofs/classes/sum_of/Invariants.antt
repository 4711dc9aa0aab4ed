use Rattle.std.proofs.Common.{◌≡◌, sum_by, take}
use Rattle.heap_view.specs.Census.{class_size}
use Rattle.heap_view.proofs.classes.sum_of.Given as goal

abbrev pub invariant-loop-class : goal.invariant-loop-class
invariant-loop-class l = l.sum ≡ sum_by class_size (take l.class-index l.classes)
