use Rattle.std.proofs.Common.{◌≡◌}
use Rattle.heap_model.specs.Weak.{cleared_slot}
use Rattle.object_graph.specs.Reached.{flag_of}
use Rattle.object_graph.proofs.ClearLaws.{cleared_in}
use Rattle.object_graph.proofs.clear.clear_slots.Given as goal

abbrev pub invariant-loop-slot : goal.invariant-loop-slot
invariant-loop-slot l = l.objects ≡ cleared_in (cleared_slot (flag_of l.first_name l.flags) l.limit) l.initial.objects l.place l.slot
