use Rattle.std.proofs.Common.{◌+◌, ◌-◌, ◌++◌, ◌∙◌, ℕ, List, length, take, ap, arith}
use Rattle.std.proofs.lemmas.List.{length-take-le}
use Rattle.script_text.proofs.Output.Lines.{both_ends}
use Rattle.script_text.proofs.Parts.Pieces.{behind_is}
use Rattle.script_text.proofs.write.bytes.put_short.Goals as goal

pub returns-clause-put : goal.returns-clause-put
returns-clause-put c =
    let text = c.args.text.now in
    let long = length-take-le 8 text (omega arith) in
    both_ends c.args.buffer.now c.put_text-2.new.buffer c.put_text-3.new.buffer text c.args.at c.put_text-2.result c.put_text-3.result
    (omega arith) (omega arith) (omega arith) (omega (arith, c.put_text-2.ensures.end)) c.put_text-2.ensures.put
    (c.put_text-3.ensures.put
    ∙ ap (λ (t : List ℕ). take (c.args.at + length text - 8) c.put_text-2.new.buffer ++ t) (behind_is (length text - 8) text))
