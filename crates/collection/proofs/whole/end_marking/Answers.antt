use Rattle.std.proofs.Common.{arith, ◌∙◌}
use Rattle.collection.proofs.Settled.{once_running, once_free}
use Rattle.collection.proofs.Cycles.{remarked, remark_free}
use Rattle.collection.proofs.Took.{more, none}
use Rattle.collection.proofs.whole.end_marking.Goals as goal

pub returns-then-marking-clause-idle : goal.returns-then-marking-clause-idle
returns-then-marking-clause-idle g c =
    let (n, is, e, r, o) = remarked c.take.result c.args.core.now c.take.new.core
    (let e = c.marking.ensures in let f = c.if-marking.true in cc) c.take.ensures.does in
    once_running _ e c.take.new.core o ∙ r.over

pub returns-then-marking-clause-free : goal.returns-then-marking-clause-free
returns-then-marking-clause-free g c =
    let (n, is, e, r, o) = remarked c.take.result c.args.core.now c.take.new.core
    (let e = c.marking.ensures in let f = c.if-marking.true in cc) c.take.ensures.does in
    (let p = remark_free n c.args.core.now e r in let q = once_free _ e c.take.new.core o in omega (arith, p, q))

pub returns-else-marking-clause-collects : goal.returns-else-marking-clause-collects
returns-else-marking-clause-collects g c =
    more g.W.Watch.sees 0 1 c.args.core.now c.args.core.now c.args.watch.now c.args.watch.now (omega arith)
    (none g.W.Watch.sees c.args.core.now c.args.watch.now)
