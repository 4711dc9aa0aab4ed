use Rattle.std.proofs.Common.{◌+◌, ap, arith}
use Rattle.heap_words.specs.declared.config.Config.{Config}
use Rattle.collection.proofs.Took.{chain}
use Rattle.collection.proofs.cycle.finish_cycle.Goals as goal

pub returns : goal.returns
returns g c =
    let e = ap (λ (x : Config). x.regions) c.end_running.ensures.config in
    chain g.W.Watch.sees 2 c.end_running.new.core.config.regions (2 + c.args.core.now.config.regions)
    c.args.core.now c.end_running.new.core c.evacuate_all.new.core c.args.watch.now c.end_running.new.watch c.evacuate_all.new.watch
    (omega (arith, e)) c.end_running.ensures c.evacuate_all.ensures
