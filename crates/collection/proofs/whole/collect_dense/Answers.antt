use Rattle.std.proofs.Common.{◌+◌, ◌-◌, ap, arith}
use Rattle.heap_words.specs.declared.config.Config.{Config}
use Rattle.regions.specs.Table.{free_count}
use Rattle.collection.proofs.Reached.{packed_before, then_cleared}
use Rattle.collection.proofs.Took.{chain}
use Rattle.collection.proofs.whole.collect_dense.Goals as goal

pub returns-clause-collects : goal.returns-clause-collects
returns-clause-collects g c =
    let regions = ap (λ (x : Config). x.regions) c.collect.ensures.collects.config in
    let still = ap (λ (x : Config). x.regions) c.mark_twice.ensures.collects.config in
    chain g.W.Watch.sees (12 + c.args.core.now.config.regions)
    (c.mark_twice.new.core.config.regions - free_count c.mark_twice.new.core.table) _
    c.args.core.now c.mark_twice.new.core c.pause_down.new.core c.args.watch.now c.mark_twice.new.watch c.pause_down.new.watch
    (omega (arith, regions, still))
    (chain g.W.Watch.sees _ 8 (12 + c.args.core.now.config.regions) c.args.core.now c.collect.new.core c.mark_twice.new.core
    c.args.watch.now c.collect.new.watch c.mark_twice.new.watch (omega arith)
    c.collect.ensures.collects c.mark_twice.ensures.collects) c.pause_down.ensures.collects

pub returns-clause-quiet : goal.returns-clause-quiet
returns-clause-quiet g c s stands =
    let w = c.collect.ensures.quiet s stands in
    let x = c.mark_twice.ensures.quiet w.after w.quiet in
    record {
      after = x.after;
      quiet = c.pause_down.ensures.quiet x.after x.quiet;
      reached = then_cleared s.graph w.after.graph x.after.graph w.reached x.reached;
    }

pub returns-clause-packed : goal.returns-clause-packed
returns-clause-packed g c s stands two =
    let w = c.collect.ensures.quiet s stands in
    let x = c.mark_twice.ensures.quiet w.after w.quiet in
    packed_before s.graph x.after.graph c.pause_down.new.core (then_cleared s.graph w.after.graph x.after.graph w.reached x.reached)
    (c.pause_down.ensures.packed x.after x.quiet (c.mark_twice.ensures.collects.two (c.collect.ensures.collects.two two)))
