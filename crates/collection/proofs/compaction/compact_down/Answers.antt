use Rattle.std.proofs.Common.{◌+◌, ◌-◌, ◌∙◌, ap, arith}
use Rattle.heap_words.specs.declared.config.Config.{Config}
use Rattle.collection.specs.Space.{ordinary_end}
use Rattle.collection.proofs.Lowered.{end_within}
use Rattle.collection.proofs.Took.{chain}
use Rattle.collection.proofs.compaction.compact_down.Goals as goal

pub returns-then-not-compact_once-clause-collects : goal.returns-then-not-compact_once-clause-collects
returns-then-not-compact_once-clause-collects g c =
    let most = end_within c.args.core.now.table in
    let count = c.law_remembers.ensures.core.layers.region_count in
    let regions = ap (λ (x : Config). x.regions) (c.compact_once.ensures.collects.config ∙ c.compactions.invariant.collects.config) in
    let before = chain g.W.Watch.sees (ordinary_end c.args.core.now.table - ordinary_end c.compactions.core.table) 1
    (c.args.core.now.config.regions + 1) c.args.core.now c.compactions.core c.compact_once.new.core c.args.watch.now c.compactions.watch
    c.compact_once.new.watch (omega (arith, most, count)) c.compactions.invariant.collects c.compact_once.ensures.collects in
    chain g.W.Watch.sees (c.args.core.now.config.regions + 1) c.compact_once.new.core.config.regions _
    c.args.core.now c.compact_once.new.core c.slide_down.new.core c.args.watch.now c.compact_once.new.watch c.slide_down.new.watch
    (omega (arith, regions)) before c.slide_down.ensures.collects

pub returns-then-not-compact_once-clause-quiet : goal.returns-then-not-compact_once-clause-quiet
returns-then-not-compact_once-clause-quiet g c s q =
    c.slide_down.ensures.quiet s (c.compact_once.ensures.quiet s (c.compactions.invariant.quiet s q))

pub returns-then-not-compact_once-clause-packed : goal.returns-then-not-compact_once-clause-packed
returns-then-not-compact_once-clause-packed g c s q two graph p = c.slide_down.ensures.packed graph
    (c.compact_once.ensures.below c.if-not-compact_once.true s (c.compactions.invariant.quiet s q)
    (c.compactions.invariant.collects.two two)) (c.compact_once.ensures.packed graph (c.compactions.invariant.packed graph p))

pub returns-then-not-compact_once-clause-compact : goal.returns-then-not-compact_once-clause-compact
returns-then-not-compact_once-clause-compact g c s q two =
    let quiet = c.compactions.invariant.quiet s q in
    c.slide_down.ensures.compact s (c.compact_once.ensures.quiet s quiet)
    (c.compact_once.ensures.below c.if-not-compact_once.true s quiet (c.compactions.invariant.collects.two two))

pub compactions-preserved : goal.compactions-preserved
compactions-preserved g c =
    let less = c.compact_once.ensures.lower c.if-not-compact_once.false in
    let falls = c.compactions.invariant.falls in
    record {
      collects = chain g.W.Watch.sees (ordinary_end c.args.core.now.table - ordinary_end c.compactions.core.table) 1 _
          c.args.core.now c.compactions.core c.compact_once.new.core c.args.watch.now c.compactions.watch c.compact_once.new.watch
          (omega (arith, less, falls)) c.compactions.invariant.collects c.compact_once.ensures.collects;
      falls = omega (arith, less, falls);
      quiet = λ s q. c.compact_once.ensures.quiet s (c.compactions.invariant.quiet s q);
      packed = λ graph q. c.compact_once.ensures.packed graph (c.compactions.invariant.packed graph q);
    }
