use Rattle.std.proofs.Common.{◌∙◌, Bool, List, ap}
use Rattle.cards.specs.Flags.{flags_of}
use Rattle.cards.proofs.Flagged.{clear_given}
use Rattle.cards.proofs.flags.Flags.give_back.Goals as goal

pub returns : goal.returns
returns c =
    let items = c.self.inside.items in
    let clear = rw c.deref.ensures.value at c.set_end-end.ensures.clear in
    let within = rw c.deref.ensures.value at c.set_end-end.ensures.within in
    ap (λ (l : List Bool). flags_of l c.self.inside.count) (c.give_back.ensures.items ∙ c.truncate.ensures.items)
    ∙ clear_given items.items c.self.inside.count c.set_end-end.result within c.self.invariant.0 clear
    ∙ c.self.view_is
