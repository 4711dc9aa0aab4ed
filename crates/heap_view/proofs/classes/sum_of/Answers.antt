use Rattle.std.proofs.Common.{arith}
use Rattle.std.proofs.lemmas.List.Sums.{sum_by_more_le}
use Rattle.heap_view.specs.Census.{class_size}
use Rattle.heap_view.proofs.KeptClasses.{sum_small}
use Rattle.heap_view.proofs.classes.sum_of.Goals as goal

pub overflow_add-sum : goal.overflow_add-sum
overflow_add-sum c =
    let small = sum_small c.args.classes.now c.requires in
    let more = sum_by_more_le class_size c.args.classes.now c.loop-class.class-index
    (record { pointers = 0; weaks = 0; values = 0; word = 0 }) c.loop-class-test.true in
    omega (arith, small, more, c.class_size-sum.ensures)
