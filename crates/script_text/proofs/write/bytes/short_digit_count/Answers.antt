use Rattle.std.proofs.Common.{sym, arith}
use Rattle.itoa.proofs.Decimal.{length_one}
use Rattle.script_text.proofs.Output.Digits.{digits_are}
use Rattle.script_text.proofs.write.bytes.short_digit_count.Goals as goal

pub returns-then-number-lt10 : goal.returns-then-number-lt10
returns-then-number-lt10 c = sym (length_one c.args.number c.if-number-lt10.true)

pub returns-then-number-lt100 : goal.returns-then-number-lt100
returns-then-number-lt100 c = digits_are 1 c.args.number (omega arith) (omega arith) (omega arith)

pub returns-then-number-lt1000 : goal.returns-then-number-lt1000
returns-then-number-lt1000 c = digits_are 2 c.args.number (omega arith) (omega arith) (omega arith)

pub returns-else-number-lt1000 : goal.returns-else-number-lt1000
returns-else-number-lt1000 c = digits_are 3 c.args.number (omega arith) (omega arith) (omega arith)
