use Rattle.std.proofs.Common.{◌≡◌, ℕ, ◌+◌, ◌-◌, ◌%◌, Some, ap, ◌∙◌, arith}
use Rattle.script_text.proofs.Parts.Numbers.{digit_read}
use Rattle.script_text.proofs.read.words.digit.Goals as goal

pub returns-clause-number : goal.returns-clause-number
returns-clause-number c = λ less.
    let value : (c.args.byte + 208) % 256 ≡ c.args.byte - 48 = omega arith in
    ap (λ (n : ℕ). Some n) value ∙ digit_read c.args.byte (omega arith) (omega arith)
