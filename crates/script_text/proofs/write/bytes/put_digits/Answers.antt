use Rattle.std.proofs.Common.{◌+◌, arith}
use Rattle.std.specs.Fmt.{decimal}
use Rattle.std.proofs.lemmas.Fmt.{length-decimal-le}
use Rattle.script_text.proofs.Output.Digits.{put_behind}
use Rattle.script_text.proofs.write.bytes.put_digits.Goals as goal

pub overflow_add-end : goal.overflow_add-end
overflow_add-end c = let most = length-decimal-le 20 c.args.number (omega arith) (omega arith) (omega arith) in omega arith

pub write_digits-requires : goal.write_digits-requires
write_digits-requires c =
    let most = length-decimal-le 20 c.args.number (omega arith) (omega arith) (omega arith) in
    (omega arith, omega arith)

pub returns-clause-put : goal.returns-clause-put
returns-clause-put c = put_behind c.args.buffer.now c.write_digits.new.buf (decimal c.args.number) c.args.at
    c.write_digits.result (c.args.at + c.digit_count.result) (omega arith) c.write_digits.ensures.start (omega arith)
    c.write_digits.ensures.written c.write_digits.ensures.before

pub returns-clause-end : goal.returns-clause-end
returns-clause-end c = let most = length-decimal-le 20 c.args.number (omega arith) (omega arith) (omega arith) in omega arith
