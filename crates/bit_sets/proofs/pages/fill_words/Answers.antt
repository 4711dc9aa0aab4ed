use Rattle.std.proofs.Common.{◌∙◌, ℕ, arith, length-set, refl}
use Rattle.bit_sets.proofs.PageWords.{all_filled, none_filled, one_filled}
use Rattle.bit_sets.proofs.pages.fill_words.Goals as goal

pub loop-index-init : goal.loop-index-init
loop-index-init c = record {
  low = omega arith;
  high = c.requires.order;
  len = refl;
  each = none_filled c.args.from c.args.value c.args.words.now;
}

pub loop-index-preserved : goal.loop-index-preserved
loop-index-preserved c =
    let w = c.loop-index.invariant in
    record {
      low = omega (arith, w.low);
      high = omega (arith, c.loop-index-test.true);
      len = length-set {A = ℕ} c.loop-index.words c.loop-index.index c.args.value ∙ w.len;
      each = one_filled c.args.from c.args.value c.args.words.now c.loop-index.words c.loop-index.index w.low
          (omega (arith, c.loop-index-test.true, c.requires.within, w.len)) w.each;
    }

pub returns-clause-each : goal.returns-clause-each
returns-clause-each c =
    let w = c.loop-index.invariant in
    all_filled c.args.from c.args.to c.args.value c.args.words.now c.loop-index.words c.loop-index.index c.requires.order
    (omega (arith, c.loop-index-test.false)) (omega (arith, w.high)) w.each
