use Rattle.std.proofs.Common.{arith}
use Rattle.collection.proofs.Took.{chain}
use Rattle.collection.proofs.cycle.end_cycle.Goals as goal

pub returns : goal.returns
returns g c =
    chain g.W.Watch.sees 1 1 2 c.args.core.now c.take.new.core c.reclaim.new.core c.args.watch.now c.take.new.watch c.reclaim.new.watch
    (omega arith) c.take.ensures.collects c.reclaim.ensures.collects
