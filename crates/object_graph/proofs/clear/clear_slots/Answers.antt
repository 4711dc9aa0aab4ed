use Rattle.std.proofs.Common.{sym, arith}
use Rattle.heap_model.specs.Weak.{cleared_slot}
use Rattle.object_graph.specs.Reached.{flag_of}
use Rattle.object_graph.proofs.ClearLaws.{part_more}
use Rattle.object_graph.proofs.clear.clear_slots.Goals as goal

pub loop-slot-preserved : goal.loop-slot-preserved
loop-slot-preserved c =
    part_more (cleared_slot (flag_of c.args.first_name c.args.flags.now) c.args.limit) c.args.objects.now c.loop-slot.objects
    c.set_weak.new.self c.args.place c.loop-slot.slot c.in-Some.was c.cleared.result
    c.requires (omega (arith, c.loop-slot-test.true, c.from-slot-end.ensures, c.weak_count.ensures.weaks)) c.loop-slot.invariant
    (sym c.in-Some.ensures) c.cleared.ensures c.set_weak.ensures
