use Rattle.std.proofs.Common.{◌+◌, ap, arith}
use Rattle.heap_words.specs.declared.config.Config.{Config}
use Rattle.collection.proofs.Took.{some_more, some_then}
use Rattle.collection.proofs.cycle.clear_or_reclaim.Goals as goal

pub returns-then-not-is_third : goal.returns-then-not-is_third
returns-then-not-is_third g c =
    some_more g.W.Watch.sees (c.args.core.now.config.regions + 2) (c.args.core.now.config.regions + 5) c.args.core.now
    c.reclaim_all.new.core c.args.watch.now c.reclaim_all.new.watch (omega arith) c.reclaim_all.ensures

pub returns-then-free_regions-clear_until : goal.returns-then-free_regions-clear_until
returns-then-free_regions-clear_until g c =
    some_more g.W.Watch.sees (c.args.core.now.config.regions + 2) (c.args.core.now.config.regions + 5) c.args.core.now
    c.reclaim_all-then-free_regions-clear_until.new.core c.args.watch.now c.reclaim_all-then-free_regions-clear_until.new.watch
    (omega arith) c.reclaim_all-then-free_regions-clear_until.ensures

pub returns-then-clearing : goal.returns-then-clearing
returns-then-clearing g c =
    some_more g.W.Watch.sees 1 (c.args.core.now.config.regions + 5) c.args.core.now c.take.new.core c.args.watch.now c.take.new.watch
    (omega arith) c.take.ensures.some

pub returns : goal.returns
returns g c =
    let e = ap (λ (x : Config). x.regions) c.take.ensures.collects.config in
    some_then g.W.Watch.sees 1 (c.take.new.core.config.regions + 2) (c.args.core.now.config.regions + 5)
    c.args.core.now c.take.new.core c.reclaim_all-2.new.core c.args.watch.now c.take.new.watch c.reclaim_all-2.new.watch
    (omega (arith, e)) c.take.ensures.some c.reclaim_all-2.ensures.collects
