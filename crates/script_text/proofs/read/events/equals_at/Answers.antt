use Rattle.std.proofs.Common.{map, arith}
use Rattle.script_text.proofs.Reading.Parting.{one_later, at_word, found_here, found_nowhere}
use Rattle.std.proofs.lemmas.List.{length-map}
use Rattle.script_text.proofs.read.events.equals_at.Goals as goal

pub returns-then-is_word-clause-exact : goal.returns-then-is_word-clause-exact
returns-then-is_word-clause-exact c = found_here (map (λ w. w.now) c.args.words.now) c.loop-at.at
    (omega (arith, length-map c.args.words.now (λ w. w.now))) c.loop-at.invariant.before
    (at_word c.args.words.now c.loop-at.at _ _ _ c.loop-at-test.true c.is_word.ensures c.if-is_word.true)

pub loop-at-preserved : goal.loop-at-preserved
loop-at-preserved c = record {
  within = omega arith;
  before = one_later (map (λ w. w.now) c.args.words.now) c.loop-at.at c.loop-at.invariant.before
      (at_word c.args.words.now c.loop-at.at _ _ _ c.loop-at-test.true c.is_word.ensures c.if-is_word.false);
}

pub returns-clause-exact : goal.returns-clause-exact
returns-clause-exact c = found_nowhere (map (λ w. w.now) c.args.words.now) c.loop-at.at
    (omega (arith, length-map c.args.words.now (λ w. w.now))) c.loop-at.invariant.before
