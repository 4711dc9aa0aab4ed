use Rattle.std.proofs.Common.{◌+◌, ◌*◌, ap, arith}
use Rattle.heap_words.specs.declared.config.Config.{Config}
use Rattle.collection.proofs.Took.{chain}
use Rattle.collection.proofs.compaction.collect_down.Goals as goal

pub returns-clause-collects : goal.returns-clause-collects
returns-clause-collects g c =
    let regions = ap (λ (x : Config). x.regions) c.collect_dense.ensures.collects.config in
    chain g.W.Watch.sees _ (2 * c.collect_dense.new.core.config.regions + 1) _ c.args.core.now c.collect_dense.new.core
    c.compact_down.new.core
    c.args.watch.now c.collect_dense.new.watch c.compact_down.new.watch (omega (arith, regions)) c.collect_dense.ensures.collects
    c.compact_down.ensures.collects

pub returns-clause-quiet : goal.returns-clause-quiet
returns-clause-quiet g c s stands =
    let w = c.collect_dense.ensures.quiet s stands in
    record { after = w.after; quiet = c.compact_down.ensures.quiet w.after w.quiet; reached = w.reached }

pub returns-clause-packed : goal.returns-clause-packed
returns-clause-packed g c s stands two =
    let w = c.collect_dense.ensures.quiet s stands in
    c.compact_down.ensures.packed w.after w.quiet (c.collect_dense.ensures.collects.two two) s.graph
    (c.collect_dense.ensures.packed s stands two)

pub returns-clause-compact : goal.returns-clause-compact
returns-clause-compact g c third two s stands =
    let w = c.collect_dense.ensures.quiet s stands in
    c.compact_down.ensures.compact w.after w.quiet (c.collect_dense.ensures.collects.two two)
