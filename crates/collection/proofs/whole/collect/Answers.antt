use Rattle.std.proofs.Common.{◌-◌, ap, arith}
use Rattle.heap_words.specs.declared.config.Config.{Config}
use Rattle.regions.specs.Table.{free_count}
use Rattle.collection.proofs.Reached.{packed_before}
use Rattle.collection.proofs.Took.{chain, collected_after, reached}
use Rattle.collection.proofs.whole.collect.Goals as goal

pub returns-clause-collects : goal.returns-clause-collects
returns-clause-collects g c =
    let p = c.end_marking.ensures.free in
    let q = c.mark_all.ensures.free in
    let e = ap (λ (x : Config). x.regions) c.end_marking.ensures.collects.config in
    let f = ap (λ (x : Config). x.regions) c.mark_all.ensures.collects.config in
    chain g.W.Watch.sees 4 (c.mark_all.new.core.config.regions - free_count c.mark_all.new.core.table) _
    c.args.core.now c.mark_all.new.core c.pause_all.new.core c.args.watch.now c.mark_all.new.watch c.pause_all.new.watch
    (omega (arith, p, q, e, f))
    (chain g.W.Watch.sees 1 3 4 c.args.core.now c.end_marking.new.core c.mark_all.new.core
    c.args.watch.now c.end_marking.new.watch c.mark_all.new.watch (omega arith)
    c.end_marking.ensures.collects c.mark_all.ensures.collects) c.pause_all.ensures.collects

pub returns-clause-quiet : goal.returns-clause-quiet
returns-clause-quiet g c s stands =
    collected_after g.W.Watch.sees 1 c.args.core.now c.end_marking.new.core c.pause_all.new.core c.args.watch.now c.end_marking.new.watch s
    c.end_marking.ensures.collects stands
    (λ r there.
    (let w = c.mark_all.ensures.quiet r there in
    record { after = w.after; quiet = c.pause_all.ensures.quiet w.after w.quiet; reached = w.reached }))

pub returns-clause-packed : goal.returns-clause-packed
returns-clause-packed g c s stands two =
    let (mid, there, before) = reached g.W.Watch.sees 1 c.args.core.now c.end_marking.new.core c.args.watch.now c.end_marking.new.watch s
    c.end_marking.ensures.collects stands in
    let w = c.mark_all.ensures.quiet mid there in
    let p = c.end_marking.ensures.free in
    let q = c.mark_all.ensures.free in
    packed_before s.graph mid.graph c.pause_all.new.core before
    (packed_before mid.graph w.after.graph c.pause_all.new.core w.reached
    (c.pause_all.ensures.packed w.after w.quiet (omega (arith, p, q, two))))
