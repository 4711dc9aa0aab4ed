use Rattle.std.proofs.Common.{ap, arith}
use Rattle.heap_words.specs.declared.config.Config.{Config}
use Rattle.collection.proofs.Sinking.{all_sunk, one_sunk}
use Rattle.collection.proofs.Took.{chain}
use Rattle.collection.proofs.compaction.slide_down.Goals as goal

pub returns-then-not-slide_once-clause-collects : goal.returns-then-not-slide_once-clause-collects
returns-then-not-slide_once-clause-collects g c =
    let less = c.loop-moved-test.true in
    let most = ap (λ (x : Config). x.regions) c.config-most.ensures.config in
    chain g.W.Watch.sees c.loop-moved.moved 1 c.args.core.now.config.regions c.args.core.now c.loop-moved.core c.slide_once.new.core
    c.args.watch.now c.loop-moved.watch c.slide_once.new.watch (omega (arith, less, most)) c.loop-moved.invariant.sunk.collects
    c.slide_once.ensures.collects

pub returns-then-not-slide_once-clause-quiet : goal.returns-then-not-slide_once-clause-quiet
returns-then-not-slide_once-clause-quiet g c s q = c.slide_once.ensures.quiet s (c.loop-moved.invariant.sunk.quiet s q)

pub returns-then-not-slide_once-clause-compact : goal.returns-then-not-slide_once-clause-compact
returns-then-not-slide_once-clause-compact g c s q low = c.slide_once.ensures.compact c.if-not-slide_once.true s
    (c.loop-moved.invariant.sunk.quiet s q) (c.loop-moved.invariant.sunk.below low)

pub loop-moved-preserved : goal.loop-moved-preserved
loop-moved-preserved g c = record {
  within = (let less = c.loop-moved-test.true in
      let most = ap (λ (x : Config). x.regions) c.config-most.ensures.config in
      omega (arith, less, most));
  sunk = one_sunk g.W.Watch.sees c.args.core.now c.args.watch.now c.loop-moved.moved c.loop-moved.core c.loop-moved.watch
      c.loop-moved.invariant.sunk c.slide_once.new.core c.slide_once.new.watch c.slide_once.ensures.collects c.slide_once.ensures.quiet
      c.slide_once.ensures.packed c.slide_once.ensures.below (λ s q low m. c.slide_once.ensures.rests c.if-not-slide_once.false s q low m);
}

pub returns-clause-compact : goal.returns-clause-compact
returns-clause-compact g c s q low =
    let more = c.loop-moved-test.false in
    let most = ap (λ (x : Config). x.regions) c.config-most.ensures.config in
    let config = ap (λ (x : Config). x.regions) c.loop-moved.invariant.sunk.collects.config in
    all_sunk g.W.Watch.sees c.args.core.now c.args.watch.now c.loop-moved.moved c.loop-moved.core c.loop-moved.watch
    c.loop-moved.invariant.sunk c.law_remembers.ensures.core c.law_shaped.ensures (omega (arith, more, most, config)) s q low
