use Rattle.std.proofs.Common.{sym, arith}
use Rattle.std.proofs.lemmas.List.{ext_get_or}
use Rattle.std.proofs.lemmas.Slice.Eq.{bytes_eq-Decides}
use Rattle.script_text.proofs.read.words.is_word.Goals as goal

pub returns : goal.returns
returns c =
    sym ((bytes_eq-Decides c.args.word.now c.args.text.now).1
    (ext_get_or 0 c.args.word.now c.args.text.now c.if-word-text.false
    (λ k lt. c.loop-at.invariant k (omega (arith, c.if-word-text.false)))))
