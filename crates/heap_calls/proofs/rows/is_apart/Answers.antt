use Rattle.std.proofs.Common.{◌-◌, arith}
use Rattle.heap_calls.proofs.rows.is_apart.Goals as goal

pub returns-then-from-clause-not : goal.returns-then-from-clause-not
returns-then-from-clause-not c e all =
    all (c.args.object - c.args.to) (omega (arith, c.if-from.true, c.from.ensures, c.from-2.ensures))
    (omega (arith, c.if-object-to.false))
