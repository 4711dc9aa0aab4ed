use Rattle.std.proofs.Common.{◌-◌, ap, arith}
use Rattle.std.proofs.lemmas.List.Sums.{count_by-le-length}
use Rattle.heap_words.specs.declared.config.Config.{Config}
use Rattle.regions.specs.Table.{free_count, is_free}
use Rattle.collection.proofs.Took.{chain}
use Rattle.collection.proofs.cycle.evacuate.Goals as goal

pub returns-then-not-evacuate_some : goal.returns-then-not-evacuate_some
returns-then-not-evacuate_some g c =
    let a = count_by-le-length is_free c.pauses.core.table.regions in
    let b = c.law_remembers.ensures.core.layers.region_count in
    let e = ap (λ (x : Config). x.regions) c.pauses.invariant.collects.config in
    chain g.W.Watch.sees (free_count c.pauses.core.table - free_count c.args.core.now.table) 1 _
    c.args.core.now c.pauses.core c.evacuate_some.new.core c.args.watch.now c.pauses.watch c.evacuate_some.new.watch
    (omega (arith, a, b, e)) c.pauses.invariant.collects c.evacuate_some.ensures.collects

pub pauses-preserved : goal.pauses-preserved
pauses-preserved g c =
    let m = c.evacuate_some.ensures.more c.if-not-evacuate_some.false in
    let f = c.pauses.invariant.grows in
    record {
      collects = chain g.W.Watch.sees (free_count c.pauses.core.table - free_count c.args.core.now.table) 1 _
          c.args.core.now c.pauses.core c.evacuate_some.new.core c.args.watch.now c.pauses.watch c.evacuate_some.new.watch
          (omega (arith, m, f)) c.pauses.invariant.collects c.evacuate_some.ensures.collects;
      grows = omega (arith, m, f);
    }

pub pauses-smaller : goal.pauses-smaller
pauses-smaller g c =
    let a = count_by-le-length is_free c.evacuate_some.new.core.table.regions in
    let b = c.law_remembers-in-pauses.ensures.core.layers.region_count in
    let m = c.evacuate_some.ensures.more c.if-not-evacuate_some.false in
    let e = ap (λ (x : Config). x.regions) c.evacuate_some.ensures.collects.config in
    omega (arith, a, b, m, e)
