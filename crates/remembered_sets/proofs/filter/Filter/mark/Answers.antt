use Rattle.std.proofs.Common.{◌+◌, ◌*◌, ◌∙◌, arith, ap, Bool, ◌||◌, ◌&&◌}
use Rattle.std.proofs.Math.Nat.{pos_of_ne-zero}
use Rattle.bit_sets.specs.Bits.{has, is_between}
use Rattle.remembered_sets.specs.Sets.{lets_through}
use Rattle.remembered_sets.specs.Sharing.{filter_at}
use Rattle.remembered_sets.proofs.Parts.{part_at, lets_all, all_member}
use Rattle.remembered_sets.proofs.filter.Filter.mark.Goals as goal

pub mark_rows-requires-clause-some_rows : goal.mark_rows-requires-clause-some_rows
mark_rows-requires-clause-some_rows c =
    let is = part_at c.self.inside _ _ _ c.self.view_is c.self.invariant c.requires.part c.requires.stands in
    let some = pos_of_ne-zero c.if-self-eq0.false in omega (arith, some, is.rows_are)

pub returns-then-self-eq0-clause-flags : goal.returns-then-self-eq0-clause-flags
returns-then-self-eq0-clause-flags c =
    λ k. c.set_members.ensures.flags k
    ∙ ap (λ (b : Bool). has c.args.flags.now k
    || (is_between (c.args.source * c.args.cards_per_region) (c.args.source * c.args.cards_per_region + c.args.cards_per_region) k && b))
    (all_member (has c.args.entered.now k) (lets_through (filter_at c.args.self.now c.args.part) c.args.cards_per_region k)
    (lets_all (part_at c.self.inside _ _ _ c.self.view_is c.self.invariant c.requires.part c.requires.stands) k c.if-self-eq0.true))
