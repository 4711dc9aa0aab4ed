use Rattle.std.proofs.Common.{◌+◌, ap, arith}
use Rattle.heap_words.specs.declared.config.Config.{Config}
use Rattle.collection.proofs.Took.{chain, some_then}
use Rattle.collection.proofs.cycle.cycle_on.Goals as goal

pub returns-clause-collects : goal.returns-clause-collects
returns-clause-collects g c =
    let e = ap (λ (x : Config). x.regions) c.mark_or_begin.ensures.collects.config in
    chain g.W.Watch.sees 3 (c.mark_or_begin.new.core.config.regions + 1) (c.args.core.now.config.regions + 4)
    c.args.core.now c.mark_or_begin.new.core c.evacuate.new.core c.args.watch.now c.mark_or_begin.new.watch c.evacuate.new.watch
    (omega (arith, e)) c.mark_or_begin.ensures.collects c.evacuate.ensures

pub returns-clause-some : goal.returns-clause-some
returns-clause-some g c due =
    let e = ap (λ (x : Config). x.regions) c.mark_or_begin.ensures.collects.config in
    some_then g.W.Watch.sees 3 (c.mark_or_begin.new.core.config.regions + 1) (c.args.core.now.config.regions + 4)
    c.args.core.now c.mark_or_begin.new.core c.evacuate.new.core c.args.watch.now c.mark_or_begin.new.watch c.evacuate.new.watch
    (omega (arith, e)) (c.mark_or_begin.ensures.some due) c.evacuate.ensures
