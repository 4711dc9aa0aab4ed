use Rattle.regions.proofs.Common.{Some, has}
use Rattle.mark_bitmap.proofs.Summaries.{lowest_member, found_within}
use Rattle.mark_bitmap.proofs.summary.Summary.lowest.Goals as goal

pub returns-clause-lowest : goal.returns-clause-lowest
returns-clause-lowest c =
    let i = c.self.inside in
    let group = lowest_member (has i.groups) i.blocks c.in_ok-block.block (Some c.first_member-group.result) c.self.invariant.block_summary
    c.in_ok-block.ensures c.first_member-group.ensures in
    rw (← c.self.view_is)
    (lowest_member (has i.members) i.groups c.first_member-group.result (Some c.first_member.result)
    c.self.invariant.group_summary group c.first_member.ensures)

pub returns-clause-within : goal.returns-clause-within
returns-clause-within c =
    let i = c.self.inside in
    let group = lowest_member (has i.groups) i.blocks c.in_ok-block.block (Some c.first_member-group.result) c.self.invariant.block_summary
    c.in_ok-block.ensures c.first_member-group.ensures in
    rw (← c.self.view_is)
    (found_within i.members (Some c.first_member.result)
    (lowest_member (has i.members) i.groups c.first_member-group.result (Some c.first_member.result)
    c.self.invariant.group_summary group c.first_member.ensures))
