use Rattle.std.proofs.Common.{◌+◌, ap, arith}
use Rattle.heap_words.specs.declared.config.Config.{Config}
use Rattle.collection.proofs.Took.{some_then}
use Rattle.collection.proofs.cycle.reclaim_all.Goals as goal

pub returns : goal.returns
returns g c =
    let e = ap (λ (x : Config). x.regions) c.reclaim.ensures.collects.config in
    some_then g.W.Watch.sees 1 (c.reclaim.new.core.config.regions + 1) (c.args.core.now.config.regions + 2)
    c.args.core.now c.reclaim.new.core c.evacuate.new.core c.args.watch.now c.reclaim.new.watch c.evacuate.new.watch
    (omega (arith, e)) c.reclaim.ensures c.evacuate.ensures
