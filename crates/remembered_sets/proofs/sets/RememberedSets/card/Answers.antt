use Rattle.std.proofs.Common.{◌∙◌, arith, ap, length, slice_get}
use Rattle.remembered_sets.specs.Sets.{CardSet}
use Rattle.remembered_sets.proofs.Reading.{known_set, set_read}
use Rattle.remembered_sets.proofs.sets.RememberedSets.card.Goals as goal

pub index-set-requires : goal.index-set-requires
index-set-requires c =
    omega (arith, known_set c.self.inside _ c.self.view_is c.args.region c.requires.region, c.number.ensures)

pub card-requires : goal.card-requires
card-requires c =
    let is = set_read c.self.inside _ c.self.view_is _ _ _ c.requires.region c.number.ensures c.index-set.ensures in
    omega (arith, c.requires.place, ap (λ (x : CardSet). length x.inline) is)

pub returns : goal.returns
returns c =
    let is = set_read c.self.inside _ c.self.view_is _ _ _ c.requires.region c.number.ensures c.index-set.ensures in
    ap (λ (x : CardSet). slice_get x.inline c.args.place) is ∙ c.card.ensures
