use Rattle.std.proofs.Common.{◌≡◌, ◌++◌, drop, length, map, take}
use Rattle.heap_view.specs.Types.{listed_class}
use Rattle.heap_view.proofs.classes.list_classes.Given as goal

abbrev pub invariant-loop-place : goal.invariant-loop-place
invariant-loop-place l = record {
  done : l.classes.items ≡ map (listed_class l.types) (take l.place l.initial.classes.items) ++ drop l.place l.initial.classes.items;
  length : length l.classes.items ≡ length l.initial.classes.items;
}
