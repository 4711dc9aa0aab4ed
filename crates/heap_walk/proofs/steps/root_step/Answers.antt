use Rattle.std.proofs.Common.{arith}
use Rattle.heap_walk.proofs.Covering.{rootless_more}
use Rattle.heap_walk.proofs.steps.root_step.Goals as goal

pub loop-at-preserved : goal.loop-at-preserved
loop-at-preserved c =
    rootless_more c.args.core.now c.args.steps.now c.args.from c.loop-at.at c.step_at.result c.root_of.result c.step_at.ensures
    c.root_of.ensures c.in_default.is c.loop-at.invariant

pub returns : goal.returns
returns c = λ x n h on under named root. c.loop-at.invariant x n h on (omega (arith, under, c.loop-at-test.false)) named root
