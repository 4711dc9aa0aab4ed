use Rattle.std.proofs.Common.{◌≡◌, ◌++◌, map, take}
use Rattle.heap_view.specs.Census.{class_of}
use Rattle.heap_view.proofs.classes.add_classes.Given as goal

abbrev pub invariant-loop-entry : goal.invariant-loop-entry
invariant-loop-entry l = l.classes.items ≡ l.initial.classes.items ++ map class_of (take l.entry-index l.entries)
