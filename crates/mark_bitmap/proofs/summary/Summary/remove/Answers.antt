use Rattle.regions.proofs.Common.{false, has}
use Rattle.mark_bitmap.proofs.Summaries.{leave_others, has_set_there}
use Rattle.mark_bitmap.proofs.summary.Summary.remove.Goals as goal

pub leave_levels-requires-clause-others : goal.leave_levels-requires-clause-others
leave_levels-requires-clause-others c =
    let i = c.self.inside in
    rw c.remove.ensures (leave_others (has i.members) _ i.groups c.args.number c.self.invariant.group_summary
    (λ a ne. has_set_there i.members c.args.number a false ne))
