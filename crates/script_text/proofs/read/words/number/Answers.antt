use Rattle.std.proofs.Common.{arith}
use Rattle.script_text.proofs.Parts.Numbers.{number_of_exact, number_of_fits}
use Rattle.script_text.proofs.read.words.number.Goals as goal

pub returns-clause-exact : goal.returns-clause-exact
returns-clause-exact c = number_of_exact c.args.limit c.args.word.now c.spelled_number.result (omega arith)
    c.spelled_number.ensures.some c.spelled_number.ensures.none

pub returns-clause-fits : goal.returns-clause-fits
returns-clause-fits c = number_of_fits c.args.limit c.args.word.now c.spelled_number.result c.spelled_number.ensures.some
