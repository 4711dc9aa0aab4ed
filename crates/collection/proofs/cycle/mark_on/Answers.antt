use Rattle.std.proofs.Common.{arith}
use Rattle.collection.proofs.Took.{some_more, some_then}
use Rattle.collection.proofs.cycle.mark_on.Goals as goal

pub returns-then-free_regions-policy : goal.returns-then-free_regions-policy
returns-then-free_regions-policy g c =
    some_then g.W.Watch.sees 1 2 3 c.args.core.now c.take.new.core c.end_cycle.new.core c.args.watch.now c.take.new.watch
    c.end_cycle.new.watch (omega arith) c.take.ensures.some c.end_cycle.ensures

pub returns-then-not-grey : goal.returns-then-not-grey
returns-then-not-grey g c =
    some_then g.W.Watch.sees 1 2 3 c.args.core.now c.take.new.core c.end_marking.new.core c.args.watch.now c.take.new.watch
    c.end_marking.new.watch (omega arith) c.take.ensures.some c.end_marking.ensures

pub returns-else-not-grey : goal.returns-else-not-grey
returns-else-not-grey g c =
    some_more g.W.Watch.sees 1 3 c.args.core.now c.take.new.core c.args.watch.now c.take.new.watch (omega arith) c.take.ensures.some
