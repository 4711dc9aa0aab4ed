use Rattle.std.proofs.Common.{◌∙◌, arith, sym}
use Rattle.type_names.proofs.Numbers.{no_number, spelled, unspelled}
use Rattle.type_names.proofs.lines.number.Goals as goal

pub returns-in_default : goal.returns-in_default
returns-in_default c = no_number c.args.word.now c.value_of.result c.in_default.is c.value_of.ensures.none

pub returns-then-spells : goal.returns-then-spells
returns-then-spells c = spelled c.args.word.now c.in-Some.value (omega arith) (sym c.spells.ensures ∙ c.if-spells.true)

pub returns-else-spells : goal.returns-else-spells
returns-else-spells c = unspelled c.args.word.now c.in-Some.value c.in-Some.ensures.some (sym c.spells.ensures ∙ c.if-spells.false)
