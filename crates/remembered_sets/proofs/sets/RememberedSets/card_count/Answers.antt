use Rattle.std.proofs.Common.{◌∙◌, arith, ap, sym, length}
use Rattle.remembered_sets.specs.Sets.{CardSet}
use Rattle.remembered_sets.proofs.Reading.{known_set, set_read}
use Rattle.remembered_sets.proofs.sets.RememberedSets.card_count.Goals as goal

pub index-set-requires : goal.index-set-requires
index-set-requires c =
    omega (arith, known_set c.self.inside _ c.self.view_is c.args.region c.requires, c.number.ensures)

pub returns : goal.returns
returns c =
    let is = set_read c.self.inside _ c.self.view_is _ _ _ c.requires c.number.ensures c.index-set.ensures in
    c.len.ensures ∙ ap (λ (x : CardSet). length x.inline) (sym is)
