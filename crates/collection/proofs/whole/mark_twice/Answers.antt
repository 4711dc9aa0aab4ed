use Rattle.std.proofs.Common.{arith}
use Rattle.collection.proofs.Reached.{none_cleared, then_cleared}
use Rattle.collection.proofs.Took.{chain, more, none}
use Rattle.collection.proofs.whole.mark_twice.Goals as goal

pub returns-then-free_regions-config-clause-collects : goal.returns-then-free_regions-config-clause-collects
returns-then-free_regions-config-clause-collects g c =
    more g.W.Watch.sees 0 8 c.args.core.now c.args.core.now c.args.watch.now c.args.watch.now (omega arith)
    (none g.W.Watch.sees c.args.core.now c.args.watch.now)

pub returns-then-free_regions-config-clause-quiet : goal.returns-then-free_regions-config-clause-quiet
returns-then-free_regions-config-clause-quiet g c s quiet = record { after = s; quiet = quiet; reached = none_cleared s.graph }

pub returns-clause-collects : goal.returns-clause-collects
returns-clause-collects g c =
    chain g.W.Watch.sees 4 4 8 c.args.core.now c.mark_again.new.core c.mark_again-2.new.core
    c.args.watch.now c.mark_again.new.watch c.mark_again-2.new.watch (omega arith)
    c.mark_again.ensures.collects c.mark_again-2.ensures.collects

pub returns-clause-quiet : goal.returns-clause-quiet
returns-clause-quiet g c s quiet =
    let w = c.mark_again.ensures.quiet s quiet in
    let x = c.mark_again-2.ensures.quiet w.after w.quiet in
    record { after = x.after; quiet = x.quiet; reached = then_cleared s.graph w.after.graph x.after.graph w.reached x.reached }
