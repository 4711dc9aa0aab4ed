use Rattle.std.proofs.Common.{◌≡◌, ◌+◌, subst, get_or}
use Rattle.script_text.specs.Fronts.{IsNext}
use Rattle.script_text.proofs.Parts.Fronts.{next_word}
use Rattle.script_text.proofs.read.line_words.after_verb.Goals as goal

pub returns : goal.returns
returns c =
    let past = c.in-Some.value in
    let space : get_or c.args.text.now past 0 ≡ 32 = c.if-text-past-ne32.false in
    subst (λ w. IsNext c.args.text.now c.args.at w (past + 1)) c.in-Some.ensures.word
    (next_word c.args.text.now c.args.at past c.requires.ended c.in-Some.ensures.clear space)
