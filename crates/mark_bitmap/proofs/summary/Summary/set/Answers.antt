use Rattle.std.proofs.Common.{◌<◌, length, sym, ap, arith}
use Rattle.mark_bitmap.proofs.Summaries.{levels_more, levels_set, some_member}
use Rattle.mark_bitmap.proofs.summary.Summary.set.Goals as goal

pub lowest_member-lowest-requires : goal.lowest_member-lowest-requires
lowest_member-lowest-requires c = omega (arith, c.requires, ap length c.self.view_is)

pub invariant_of-self : goal.invariant_of-self
invariant_of-self c =
    let i = c.self.inside in
    let inside : c.args.number < length i.members = omega (arith, c.requires, ap length c.self.view_is) in
    rw c.set.ensures
    (levels_more i.members i.groups i.blocks c.args.number inside
    (some_member _ _ c.lowest_member-lowest.result c.lowest_member-lowest.ensures
    (sym c.if-is_some.ensures))
    c.self.invariant)

pub invariant_of-self-2 : goal.invariant_of-self-2
invariant_of-self-2 c =
    let i = c.self.inside in
    let inside : c.args.number < length i.members = omega (arith, c.requires, ap length c.self.view_is) in
    rw (c.set.ensures, c.set-2.ensures, c.set-3.ensures) (levels_set i.members i.groups i.blocks c.args.number inside c.self.invariant)
