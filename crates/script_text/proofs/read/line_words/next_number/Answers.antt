use Rattle.std.proofs.Common.{◌≡◌, ◌+◌, subst, get_or}
use Rattle.script_text.specs.Fronts.{IsNext}
use Rattle.script_text.proofs.Parts.Fronts.{next_word}
use Rattle.script_text.proofs.read.line_words.next_number.Goals as goal

pub returns : goal.returns
returns c =
    let word = c.in-Some.value in
    let space : get_or c.args.text.now word.past 0 ≡ 32 = c.if-text-word-ne32.false in (
      subst (λ w. IsNext c.args.text.now c.args.at w (word.past + 1)) c.in-Some.ensures.number.0
          (next_word c.args.text.now c.args.at word.past c.requires.ended c.in-Some.ensures.clear space),
      c.in-Some.ensures.number.1,
    )
