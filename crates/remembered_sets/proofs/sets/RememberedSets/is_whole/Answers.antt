use Rattle.std.proofs.Common.{◌∙◌, arith, ap, sym, subst, length, get_or, false, ℕ}
use Rattle.remembered_sets.specs.Sets.{AreSets, CardSet, no_set}
use Rattle.remembered_sets.proofs.Reading.{known_set, set_read}
use Rattle.remembered_sets.proofs.sets.RememberedSets.is_whole.Goals as goal

pub index-set-requires : goal.index-set-requires
index-set-requires c =
    omega (arith, known_set c.self.inside _ c.self.view_is c.args.region c.requires.region, c.number.ensures)

pub is_whole-requires : goal.is_whole-requires
is_whole-requires c =
    let is = set_read c.self.inside _ c.self.view_is _ _ _ c.requires.region c.number.ensures c.index-set.ensures in
    let all = subst AreSets c.self.view_is c.self.invariant.all in
    let marks = (all.each c.args.region no_set c.requires.region).marks in
    let length_is = ap (λ (x : CardSet). length x.sources) is in
    omega (arith, marks, length_is, c.requires.source, c.number-2.ensures)

pub returns : goal.returns
returns c =
    let is = set_read c.self.inside _ c.self.view_is _ _ _ c.requires.region c.number.ensures c.index-set.ensures in
    c.is_whole.ensures ∙ ap (λ (k : ℕ). get_or c.index-set.result.now.sources k false) c.number-2.ensures
    ∙ ap (λ (x : CardSet). get_or x.sources c.args.source false) (sym is)
