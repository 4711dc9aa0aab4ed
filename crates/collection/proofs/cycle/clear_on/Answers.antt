use Rattle.std.proofs.Common.{arith}
use Rattle.collection.proofs.Took.{some_more, some_then}
use Rattle.collection.proofs.cycle.clear_on.Goals as goal

pub returns-then-not-is_third : goal.returns-then-not-is_third
returns-then-not-is_third g c =
    some_more g.W.Watch.sees 1 2 c.args.core.now c.reclaim.new.core c.args.watch.now c.reclaim.new.watch (omega arith) c.reclaim.ensures

pub returns-then-not-clearing : goal.returns-then-not-clearing
returns-then-not-clearing g c =
    some_then g.W.Watch.sees 1 1 2 c.args.core.now c.take.new.core c.reclaim-then-not-clearing.new.core c.args.watch.now c.take.new.watch
    c.reclaim-then-not-clearing.new.watch (omega arith) c.take.ensures.some c.reclaim-then-not-clearing.ensures.collects

pub returns-else-not-clearing : goal.returns-else-not-clearing
returns-else-not-clearing g c =
    some_more g.W.Watch.sees 1 2 c.args.core.now c.take.new.core c.args.watch.now c.take.new.watch (omega arith) c.take.ensures.some
