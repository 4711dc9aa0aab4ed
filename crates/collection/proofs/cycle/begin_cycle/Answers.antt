use Rattle.std.proofs.Common.{arith}
use Rattle.collection.proofs.Took.{chain, some_more, some_then}
use Rattle.collection.proofs.cycle.begin_cycle.Goals as goal

pub returns-then-free-policy-2-clause-collects : goal.returns-then-free-policy-2-clause-collects
returns-then-free-policy-2-clause-collects g c =
    chain g.W.Watch.sees 1 2 3 c.args.core.now c.take.new.core c.end_cycle.new.core c.args.watch.now c.take.new.watch c.end_cycle.new.watch
    (omega arith) c.take.ensures.collects c.end_cycle.ensures

pub returns-then-free-policy-2-clause-some : goal.returns-then-free-policy-2-clause-some
returns-then-free-policy-2-clause-some g c few =
    some_then g.W.Watch.sees 1 2 3 c.args.core.now c.take.new.core c.end_cycle.new.core c.args.watch.now c.take.new.watch
    c.end_cycle.new.watch (omega arith) c.take.ensures.some c.end_cycle.ensures

pub returns-else-free-policy-2-clause-some : goal.returns-else-free-policy-2-clause-some
returns-else-free-policy-2-clause-some g c few =
    some_more g.W.Watch.sees 1 3 c.args.core.now c.take.new.core c.args.watch.now c.take.new.watch (omega arith) c.take.ensures.some
