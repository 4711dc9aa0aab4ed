use Rattle.std.proofs.Common.{◌≡◌, ◌∙◌, ap, arith, false, get_or, set, sym, Bool, List}
use Rattle.std.proofs.lemmas.List.{get_or_past, set-get_or}
use Rattle.cards.proofs.Flagged.{flag_is, flag_set}
use Rattle.cards.proofs.flags.Flags.remove.Goals as goal

pub returns-then-place-len : goal.returns-then-place-len
returns-then-place-len c =
    let items = c.self.inside.items in
    flag_set items.items _ c.self.inside.count c.args.card false (omega (arith, items.ok.0)) c.self.view_is

-- a flag that isn't written is clear
pub returns-else-place-len : goal.returns-else-place-len
returns-else-place-len c =
    let items = c.self.inside.items in
    let clear : get_or c.args.self.now c.args.card false ≡ false =
    ap (λ (l : List Bool). get_or l c.args.card false) (sym c.self.view_is) ∙ flag_is items.items c.self.inside.count c.args.card
    ∙ get_or_past items.items c.args.card false (omega (arith, items.ok.0)) in
    sym (ap (λ (b : Bool). set c.args.self.now c.args.card b) (sym clear) ∙ set-get_or c.args.self.now c.args.card false)
