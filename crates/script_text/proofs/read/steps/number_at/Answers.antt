use Rattle.std.proofs.Common.{sym, arith}
use Rattle.script_text.proofs.Reading.Operands.{behind_form, no_number, number_is}
use Rattle.script_text.proofs.read.steps.number_at.Goals as goal

pub returns-then-index-form : goal.returns-then-index-form
returns-then-index-form c = sym (behind_form c.args.form.now _ c.args.index (omega arith))

pub returns-then-index-words : goal.returns-then-index-words
returns-then-index-words c = no_number c.args.form.now c.args.words.now c.args.index (omega arith)

pub returns : goal.returns
returns c =
    number_is c.args.form.now c.args.words.now c.args.index _ _ c.operand.result (omega arith) (omega arith) c.operand.ensures
