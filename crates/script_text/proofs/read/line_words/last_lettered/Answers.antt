use Rattle.std.proofs.Common.{◌≡◌, subst, get_or, cond}
use Rattle.script_text.specs.Fronts.{IsLastWord}
use Rattle.script_text.proofs.Parts.Fronts.{last_word}
use Rattle.script_text.proofs.read.line_words.last_lettered.Goals as goal

pub returns : goal.returns
returns c =
    let word = c.in-Some.value in
    let stop : get_or c.args.text.now word.past 0 ≡ cond c.args.more 32 10 = c.ends_word.ensures c.if-not-ends_word.false in (
      subst (λ w. IsLastWord c.args.text.now c.args.at w word.past c.args.more) c.in-Some.ensures.number.0
          (last_word c.args.text.now c.args.at word.past c.args.more c.requires.ended c.in-Some.ensures.clear stop),
      c.in-Some.ensures.number.1,
    )
