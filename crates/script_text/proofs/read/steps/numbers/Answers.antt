use Rattle.std.proofs.Common.{◌∙◌, sym, arith}
use Rattle.script_text.proofs.Reading.Operands.{four_read, none_at, other_count}
use Rattle.script_text.proofs.read.steps.numbers.Goals as goal

pub returns-then-form-words-clause-none : goal.returns-then-form-words-clause-none
returns-then-form-words-clause-none c = other_count c.args.form.now c.args.words.now (λ e. omega (arith, e))

pub returns-in-None-clause-none : goal.returns-in-None-clause-none
returns-in-None-clause-none c = none_at c.args.form.now _ 0 (sym c.number_at.ensures ∙ c.in-None.is)

pub returns-in-None-number_at-clause-none : goal.returns-in-None-number_at-clause-none
returns-in-None-number_at-clause-none c = none_at c.args.form.now _ 1 (sym c.number_at-2.ensures ∙ c.in-None-number_at.is)

pub returns-in-None-number_at-2-clause-none : goal.returns-in-None-number_at-2-clause-none
returns-in-None-number_at-2-clause-none c = none_at c.args.form.now _ 2 (sym c.number_at-3.ensures ∙ c.in-None-number_at-2.is)

pub returns-in-None-number_at-3-clause-none : goal.returns-in-None-number_at-3-clause-none
returns-in-None-number_at-3-clause-none c = none_at c.args.form.now _ 3 (sym c.number_at-4.ensures ∙ c.in-None-number_at-3.is)

pub returns-clause-some : goal.returns-clause-some
returns-clause-some c =
    four_read c.args.form.now c.args.words.now c.in-Some.value c.in-Some-number_at.value c.in-Some-number_at-2.value
    c.in-Some-number_at-3.value (omega arith) (omega arith) (sym c.number_at.ensures ∙ c.in-Some.is)
    (sym c.number_at-2.ensures ∙ c.in-Some-number_at.is) (sym c.number_at-3.ensures ∙ c.in-Some-number_at-2.is)
    (sym c.number_at-4.ensures ∙ c.in-Some-number_at-3.is)
