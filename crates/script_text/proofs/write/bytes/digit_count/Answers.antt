use Rattle.std.proofs.Common.{arith}
use Rattle.std.proofs.lemmas.Fmt.{length-decimal-le}
use Rattle.itoa.proofs.Decimal.{length_four}
use Rattle.script_text.proofs.Output.Digits.{digits_are}
use Rattle.script_text.proofs.write.bytes.digit_count.Goals as goal

pub overflow_add-count : goal.overflow_add-count
overflow_add-count c =
    let most = length-decimal-le 20 c.args.number (omega arith) (omega arith) (omega arith) in
    let so_far = c.loop-left.invariant.digits in
    let more = length_four c.loop-left.left (omega arith) (omega arith) in
    omega arith

pub loop-left-preserved : goal.loop-left-preserved
loop-left-preserved c = record {
  digits = let so_far = c.loop-left.invariant.digits in let more = length_four c.loop-left.left (omega arith) (omega arith) in omega arith;
}

pub overflow_add-result : goal.overflow_add-result
overflow_add-result c =
    let most = length-decimal-le 20 c.args.number (omega arith) (omega arith) (omega arith) in
    let so_far = c.loop-left.invariant.digits in
    let short = c.short_digit_count-2.ensures in
    omega arith

pub returns-then-number-lt100000 : goal.returns-then-number-lt100000
returns-then-number-lt100000 c = digits_are 4 c.args.number (omega arith) (omega arith) (omega arith)

pub returns-then-number-lt1000000 : goal.returns-then-number-lt1000000
returns-then-number-lt1000000 c = digits_are 5 c.args.number (omega arith) (omega arith) (omega arith)
