use Rattle.std.proofs.Common.{rules}
use Rattle.type_names.proofs.Numbers.{no_text, read_none, read_value}
use Rattle.type_names.proofs.lines.value_of.Goals as goal

pub returns-in-Ok-clause-some : goal.returns-in-Ok-clause-some
returns-in-Ok-clause-some c =
    read_value c.args.word.now c.in-Ok.text.now c.parse.result c.ok.result c.in-Ok.ensures.cases.0 c.ok.ensures.value
    c.parse.ensures.value.0

pub returns-in-Ok-clause-none : goal.returns-in-Ok-clause-none
returns-in-Ok-clause-none c =
    read_none c.args.word.now c.in-Ok.text.now c.parse.result c.ok.result c.in-Ok.ensures.cases.0 c.ok.ensures.value
    c.parse.ensures.value.0

pub returns-in-Err-clause-none : goal.returns-in-Err-clause-none
returns-in-Err-clause-none c = no_text c.args.word.now c.in-Err.ensures.cases.0
