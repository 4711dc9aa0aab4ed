use Rattle.std.proofs.Common.{arith, sym}
use Rattle.std.proofs.lemmas.List.{length-take-le, take_all}
use Rattle.script_text.proofs.hints.front_of.Goals as goal

pub slice_bounds-result-end : goal.slice_bounds-result-end
slice_bounds-result-end c = sym (length-take-le 120 c.args.line.now (omega (arith, c.if-line-gt120.true)))

pub returns-then-line-gt120-clause-short : goal.returns-then-line-gt120-clause-short
returns-then-line-gt120-clause-short c =
    let e = length-take-le 120 c.args.line.now (omega (arith, c.if-line-gt120.true)) in
    omega (arith, e)

pub returns-clause-front : goal.returns-clause-front
returns-clause-front c = sym (take_all 120 c.args.line.now c.if-line-gt120.false)
