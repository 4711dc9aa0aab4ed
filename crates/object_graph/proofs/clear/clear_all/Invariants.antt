use Rattle.std.proofs.Common.{◌≡◌, ◌++◌, take, drop, map}
use Rattle.heap_model.specs.Weak.{cleared_names}
use Rattle.object_graph.specs.Reached.{flag_of}
use Rattle.object_graph.proofs.clear.clear_all.Given as goal

abbrev pub invariant-loop-place : goal.invariant-loop-place
invariant-loop-place l = l.objects ≡ map (cleared_names (flag_of l.first_name l.flags) l.limit)
    (take l.place l.initial.objects) ++ drop l.place l.initial.objects
