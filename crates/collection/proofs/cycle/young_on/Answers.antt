use Rattle.std.proofs.Common.{arith}
use Rattle.collection.proofs.Took.{some_then}
use Rattle.collection.proofs.cycle.young_on.Goals as goal

pub returns : goal.returns
returns g c =
    some_then g.W.Watch.sees 1 3 4 c.args.core.now c.pause_young.new.core c.mark_or_begin.new.core c.args.watch.now c.pause_young.new.watch
    c.mark_or_begin.new.watch (omega arith) c.pause_young.ensures c.mark_or_begin.ensures.collects
