use Rattle.std.proofs.Common.{◌∙◌, arith, true}
use Rattle.cards.proofs.Flagged.{length_flags, flag_set}
use Rattle.cards.proofs.flags.Flags.set.Goals as goal

pub overflow_add-card : goal.overflow_add-card
overflow_add-card c =
    omega (arith, c.requires, length_flags c.self.inside.items.items _ c.self.inside.count c.self.invariant.0 c.self.view_is)

pub clear_below-requires-clause-short : goal.clear_below-requires-clause-short
clear_below-requires-clause-short c = omega (arith, c.self.inside.items.ok.0, c.self.invariant.0)

pub clear_below-requires-clause-within : goal.clear_below-requires-clause-within
clear_below-requires-clause-within c =
    omega (arith, c.requires, length_flags c.self.inside.items.items _ c.self.inside.count c.self.invariant.0 c.self.view_is)

pub returns : goal.returns
returns c =
    let items = c.clear_below.new.items in
    flag_set items.items _ c.self.inside.count c.args.card true (omega (arith, c.clear_below.ensures.written, items.ok.0))
    (c.clear_below.ensures.all ∙ c.self.view_is)
