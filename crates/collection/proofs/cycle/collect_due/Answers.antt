use Rattle.std.proofs.Common.{◌+◌, arith}
use Rattle.collection.proofs.Took.{some_more}
use Rattle.collection.proofs.cycle.collect_due.Goals as goal

pub returns-else-free_regions-policy-clause-some : goal.returns-else-free_regions-policy-clause-some
returns-else-free_regions-policy-clause-some g c due =
    some_more g.W.Watch.sees 5 (c.args.core.now.config.regions + 5) c.args.core.now c.work.new.core c.args.watch.now c.work.new.watch
    (omega arith) (c.work.ensures.some due)
