use Rattle.std.proofs.Common.{◌≡◌, subst, get_or, cond}
use Rattle.script_text.specs.Fronts.{IsLastWord}
use Rattle.script_text.proofs.Parts.Fronts.{last_word}
use Rattle.script_text.proofs.read.line_words.last_literal.Goals as goal

pub returns : goal.returns
returns c =
    let past = c.in-Some.value in
    let stop : get_or c.args.text.now past 0 ≡ cond c.args.more 32 10 = c.ends_word.ensures c.if-not-ends_word.false in
    subst (λ w. IsLastWord c.args.text.now c.args.at w past c.args.more) c.in-Some.ensures.word
    (last_word c.args.text.now c.args.at past c.args.more c.requires.ended c.in-Some.ensures.clear stop)
