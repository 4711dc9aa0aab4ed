use Rattle.remembered_sets.proofs.Sharing.{begun}
use Rattle.remembered_sets.proofs.filter.begin.Goals as goal

pub returns-clause-same : goal.returns-clause-same
returns-clause-same c = λ other place h.
    begun c.args.size c.args.part other place c.args.used.now c.args.flags.now c.clear_part.new.flags c.requires.part c.told-used
    c.if-used-part.false h c.clear_part.ensures.flags
