use Rattle.std.proofs.Common.{arith}
use Rattle.heap_model.specs.Weak.{cleared_names}
use Rattle.object_graph.specs.Reached.{flag_of}
use Rattle.object_graph.proofs.ClearLaws.{object_more, objects_length}
use Rattle.object_graph.proofs.clear.clear_all.Goals as goal

pub loop-place-preserved : goal.loop-place-preserved
loop-place-preserved c =
    let f = cleared_names (flag_of c.args.first_name c.args.flags.now) c.args.limit in
    let same = objects_length f c.args.objects.now c.loop-place.objects c.loop-place.place c.loop-place.invariant in
    object_more f c.args.objects.now c.loop-place.objects c.clear_slots.new.objects c.loop-place.place
    (omega (arith, c.loop-place-test.true, c.len-place-end.ensures))
    (omega (arith, same, c.loop-place-test.true, c.len-place-end.ensures)) c.loop-place.invariant c.clear_slots.ensures
