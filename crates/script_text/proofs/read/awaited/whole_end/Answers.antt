use Rattle.std.proofs.Common.{◌≡◌, ◌+◌, ◌-◌, ℕ, ap, get_or, ◌∙◌, arith}
use Rattle.std.proofs.lemmas.Bool.{eq-eqb, eqb-true}
use Rattle.script_text.proofs.read.awaited.whole_end.Goals as goal

pub returns-in-Some : goal.returns-in-Some
returns-in-Some c =
    let (bounds, feed) = c.in-Some.ensures in
    let place : c.in-Some.at + 1 - 1 ≡ c.in-Some.at = omega arith in
    record {
      begun = omega arith;
      within = omega (arith, bounds.high);
      feed = λ some. ap (λ (k : ℕ). get_or c.args.bytes.now k 0) place ∙ eqb-true _ _ feed;
      clear = λ k from before is. bounds.after k from before (eq-eqb _ _ is);
    }

pub returns-in-None : goal.returns-in-None
returns-in-None c = record {
  begun = omega arith;
  within = omega arith;
  feed = λ some. absurd (omega arith);
  clear = λ k from before is. c.in-None.ensures k from before (eq-eqb _ _ is);
}
