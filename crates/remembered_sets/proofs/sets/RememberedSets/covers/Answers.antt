use Rattle.std.proofs.Common.{◌≡◌, ◌/◌, ◌∙◌, arith, ap, sym, subst, length, ℕ}
use Rattle.remembered_sets.specs.Sets.{AreSets, CardSet, Sets, no_set, set_covers}
use Rattle.remembered_sets.proofs.Laws.{source_known}
use Rattle.remembered_sets.proofs.Reading.{known_set, set_read}
use Rattle.remembered_sets.proofs.sets.RememberedSets.covers.Goals as goal

pub index-set-requires : goal.index-set-requires
index-set-requires c =
    omega (arith, known_set c.self.inside _ c.self.view_is c.args.region c.requires.region, c.number-2.ensures)

pub covers-requires : goal.covers-requires
covers-requires c =
    let is = set_read c.self.inside _ c.self.view_is _ _ _ c.requires.region c.number-2.ensures c.index-set.ensures in
    let all = subst AreSets c.self.view_is c.self.invariant.all in
    let marks = (all.each c.args.region no_set c.requires.region).marks in
    let length_is = ap (λ (x : CardSet). length x.sources) is in
    let source : c.quotient-source.result ≡ c.args.card / c.args.self.now.cards_per_region =
    c.quotient-source.ensures ∙ ap (λ (k : ℕ). k / c.self.inside.cards_per_region) c.number.ensures
    ∙ ap (λ (x : Sets). c.args.card / x.cards_per_region) c.self.view_is in
    let own = source_known c.args.card c.args.self.now.cards_per_region (length c.args.self.now.sets) all.some_cards c.requires.card in
    omega (arith, own, source, marks, length_is)

pub returns : goal.returns
returns c =
    let is = set_read c.self.inside _ c.self.view_is _ _ _ c.requires.region c.number-2.ensures c.index-set.ensures in
    let source : c.quotient-source.result ≡ c.args.card / c.args.self.now.cards_per_region =
    c.quotient-source.ensures ∙ ap (λ (k : ℕ). k / c.self.inside.cards_per_region) c.number.ensures
    ∙ ap (λ (x : Sets). c.args.card / x.cards_per_region) c.self.view_is in
    c.covers.ensures ∙ ap (λ (k : ℕ). set_covers c.index-set.result.now c.args.card k) source
    ∙ ap (λ (x : CardSet). set_covers x c.args.card (c.args.card / c.args.self.now.cards_per_region)) (sym is)
