use Rattle.std.proofs.Common.{◌∙◌, sym, arith, false}
use Rattle.std.proofs.lemmas.List.{get_or_read, get_or_past}
use Rattle.cards.proofs.Flagged.{flag_is}
use Rattle.cards.proofs.flags.Flags.get.Goals as goal

pub returns-then-place-len : goal.returns-then-place-len
returns-then-place-len c =
    let items = c.self.inside.items in
    rw (← c.self.view_is)
    (get_or_read items.items _ _ (omega (arith, items.ok.0)) c.index.ensures false ∙ sym (flag_is items.items c.self.inside.count
    c.args.card))

pub returns-else-place-len : goal.returns-else-place-len
returns-else-place-len c =
    let items = c.self.inside.items in
    rw (← c.self.view_is)
    (sym (get_or_past items.items c.args.card false (omega (arith, items.ok.0))) ∙ sym (flag_is items.items c.self.inside.count
    c.args.card))
