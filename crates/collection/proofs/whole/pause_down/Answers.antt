use Rattle.std.proofs.Common.{◌-◌, ap, arith}
use Rattle.heap_words.specs.declared.config.Config.{Config}
use Rattle.std.proofs.lemmas.List.Sums.{count_by-le-length}
use Rattle.regions.specs.Table.{free_count, is_free}
use Rattle.collection.proofs.Packed.{all_free}
use Rattle.collection.proofs.Took.{chain, more}
use Rattle.collection.proofs.whole.pause_down.Goals as goal

pub returns-then-config-free_regions-clause-collects :
    goal.returns-then-config-free_regions-clause-collects
returns-then-config-free_regions-clause-collects g c =
    let a = count_by-le-length is_free c.pauses.core.table.regions in
    let b = c.law_remembers.ensures.core.layers.region_count in
    let e = ap (λ (x : Config). x.regions) c.pauses.invariant.collects.config in
    more g.W.Watch.sees _ _ c.args.core.now c.pauses.core c.args.watch.now c.pauses.watch (omega
    (arith, a, b, e)) c.pauses.invariant.collects

pub returns-then-config-free_regions-clause-packed :
    goal.returns-then-config-free_regions-clause-packed
returns-then-config-free_regions-clause-packed g c s q two =
    all_free s.graph c.pauses.core c.law_remembers.ensures.core
    (let a = c.if-config-free_regions.true in
    let b = c.free_regions.ensures in
    let e = ap (λ (x : Config). x.regions) c.config.ensures.config in
    omega (arith, a, b, e))

pub returns-then-not-pause_once-clause-collects : goal.returns-then-not-pause_once-clause-collects
returns-then-not-pause_once-clause-collects g c =
    let a = c.if-config-free_regions.false in
    let b = c.free_regions.ensures in
    let d = ap (λ (x : Config). x.regions) c.config.ensures.config in
    let e = ap (λ (x : Config). x.regions) c.pauses.invariant.collects.config in
    let f = c.pauses.invariant.grows in
    chain g.W.Watch.sees (free_count c.pauses.core.table - free_count c.args.core.now.table) 1 _
    c.args.core.now c.pauses.core c.pause_once.new.core c.args.watch.now c.pauses.watch c.pause_once.new.watch
    (omega (arith, a, b, d, e, f)) c.pauses.invariant.collects c.pause_once.ensures.collects

pub pauses-preserved : goal.pauses-preserved
pauses-preserved g c =
    let m = c.pause_once.ensures.more c.if-not-pause_once.false in
    let f = c.pauses.invariant.grows in
    record {
      collects = chain g.W.Watch.sees (free_count c.pauses.core.table - free_count c.args.core.now.table) 1 _
          c.args.core.now c.pauses.core c.pause_once.new.core c.args.watch.now c.pauses.watch c.pause_once.new.watch
          (omega (arith, m, f)) c.pauses.invariant.collects c.pause_once.ensures.collects;
      grows = omega (arith, m, f);
      quiet = λ s q. c.pause_once.ensures.quiet s (c.pauses.invariant.quiet s q);
    }
