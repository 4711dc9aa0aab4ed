use Rattle.std.proofs.Common.{arith}
use Rattle.collection.proofs.Took.{chain, collected_after}
use Rattle.collection.proofs.whole.mark_again.Goals as goal

pub returns-clause-collects : goal.returns-clause-collects
returns-clause-collects g c =
    chain g.W.Watch.sees 1 3 4 c.args.core.now c.end_marking.new.core c.mark_all.new.core
    c.args.watch.now c.end_marking.new.watch c.mark_all.new.watch (omega arith)
    c.end_marking.ensures.collects c.mark_all.ensures.collects

pub returns-clause-quiet : goal.returns-clause-quiet
returns-clause-quiet g c s quiet =
    collected_after g.W.Watch.sees 1 c.args.core.now c.end_marking.new.core c.mark_all.new.core c.args.watch.now c.end_marking.new.watch s
    c.end_marking.ensures.collects quiet.stands (λ r there. c.mark_all.ensures.quiet r there)
