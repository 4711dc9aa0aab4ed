use Rattle.std.proofs.Common.{◌∙◌, ◌/◌, arith, ◌&&◌}
use Rattle.bit_sets.specs.Bits.{has}
use Rattle.remembered_sets.specs.Sets.{lets_through}
use Rattle.remembered_sets.specs.Sharing.{filter_at}
use Rattle.remembered_sets.proofs.Flagging.{flagged_below, flagged_above, unmarked_stays}
use Rattle.remembered_sets.proofs.flags.flag_sources.Goals as goal

pub returns-then-is_untouched-clause-flags : goal.returns-then-is_untouched-clause-flags
returns-then-is_untouched-clause-flags c = λ k.
    unmarked_stays c.args.sources.now (k / c.args.cards_per_region) (has c.args.flags.now k)
    (has c.args.entered.now k && lets_through (filter_at c.args.filter.now c.args.part) c.args.cards_per_region k)
    (c.is_untouched.ensures c.if-is_untouched.true)

pub loop-source-preserved : goal.loop-source-preserved
loop-source-preserved c = record {
  below = λ k h.
      flagged_below c.args.cards_per_region c.in-Some.source c.loop-source.start k c.args.sources.now (has c.args.flags.now k)
      (has c.loop-source.flags k) (has c.mark.new.flags k)
      (has c.args.entered.now k && lets_through (filter_at c.args.filter.now c.args.part) c.args.cards_per_region k) c.requires.some_cards h
      c.in-Some.ensures.lowest
      (c.loop-source.invariant.below k) (c.loop-source.invariant.above k) (c.mark.ensures.flags k);
  above = λ k h.
      flagged_above c.args.cards_per_region c.in-Some.source k (has c.loop-source.flags k) (has c.mark.new.flags k)
      (has c.args.entered.now k && lets_through (filter_at c.args.filter.now c.args.part) c.args.cards_per_region k) c.requires.some_cards h
      (c.mark.ensures.flags k)
      ∙ c.loop-source.invariant.above k (let low = c.in-Some.ensures.lowest.at_least in omega (arith, low, h));
  len = c.mark.ensures.len ∙ c.loop-source.invariant.len;
  inside = (let within = c.in-Some.ensures.within in omega (arith, within));
}
