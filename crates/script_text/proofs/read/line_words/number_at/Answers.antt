use Rattle.std.proofs.Common.{◌∙◌, ◌∷◌, [], sym, get_or, arith}
use Rattle.script_text.specs.Reading.{small}
use Rattle.script_text.proofs.Parts.Numbers.{number_of_is}
use Rattle.script_text.proofs.Parts.Fronts.{clear_more, clear_none, part_one}
use Rattle.script_text.proofs.read.line_words.number_at.Goals as goal

pub returns-then-digit-ge10-clause-number : goal.returns-then-digit-ge10-clause-number
returns-then-digit-ge10-clause-number c =
    let text = c.args.text.now in
    let read = number_of_is small (get_or text c.args.at 0 ∷ []) c.digit-first.result
    (sym (c.digit-first.ensures.number c.if-first-ge10.false)) in
    (part_one text c.args.at (omega (arith, c.requires.ended, c.requires.within)) ∙ read.0, read.1)

pub returns-then-digit-ge10-clause-clear : goal.returns-then-digit-ge10-clause-clear
returns-then-digit-ge10-clause-clear c =
    clear_more c.args.text.now c.args.at c.args.at c.requires.ended (clear_none c.args.text.now c.args.at c.requires.within)
    (omega (arith, c.digit-first.ensures.value c.if-first-ge10.false))
