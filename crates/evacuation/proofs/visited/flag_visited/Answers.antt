use Rattle.std.proofs.Common.{◌≡◌, ◌<◌, ◌∙◌, ◌*◌, ◌/◌, ℕ, sym, ap}
use Rattle.std.proofs.Math.Nat.{mul-div_cancel, mul-div-mul_right}
use Rattle.regions.specs.Table.{Table, kind_of}
use Rattle.remembered_sets.specs.Sets.{Sets}
use Rattle.refinement.specs.Refining.{SetsFit}
use Rattle.regions.proofs.Words.Divides.{card_has_words}
use Rattle.evacuation.proofs.visited.flag_visited.Goals as goal

-- how many cards a region has, and the region of a card
per_region : (t : Table) (cw : ℕ) (s : Sets) → 0 < t.words_per_region → SetsFit t cw s → t.words_per_region / cw ≡ s.cards_per_region
per_region t cw s z f = ap (λ (n : ℕ). n / cw) f.whole_cards
    ∙ mul-div_cancel s.cards_per_region (card_has_words cw t.words_per_region s.cards_per_region z f.whole_cards)

region_is : (t : Table) (cw card : ℕ) (s : Sets) → 0 < t.words_per_region → SetsFit t cw s
    → card * cw / t.words_per_region ≡ card / (t.words_per_region / cw)
region_is t cw card s z f =
    ap (λ (n : ℕ). card * cw / n) f.whole_cards
    ∙ mul-div-mul_right card s.cards_per_region (card_has_words cw t.words_per_region s.cards_per_region z f.whole_cards)
    ∙ ap (λ (n : ℕ). card / n) (sym (per_region t cw s z f))

pub clear_free-requires-clause-each : goal.clear_free-requires-clause-each
clear_free-requires-clause-each c =
    let q = per_region c.args.table.now c.args.card_words c.args.sets.now c.law.ensures.positive c.requires.fit in
    rw c.words_per_region.ensures rw q rw (sym c.requires.fit.each_region) (c.flag_covered.ensures.len ∙ c.requires.cards)

pub returns-clause-flags : goal.returns-clause-flags
returns-clause-flags c card used =
    let q = region_is c.args.table.now c.args.card_words card c.args.sets.now c.law.ensures.positive c.requires.fit
    ∙ ap (λ (n : ℕ). card / (n / c.args.card_words)) (sym c.words_per_region.ensures) in
    c.clear_free.ensures.in_use card (λ f. used (ap (kind_of c.args.table.now) q ∙ f)) ∙ c.flag_covered.ensures.flags card

pub returns-clause-free : goal.returns-clause-free
returns-clause-free c card free =
    let q = region_is c.args.table.now c.args.card_words card c.args.sets.now c.law.ensures.positive c.requires.fit
    ∙ ap (λ (n : ℕ). card / (n / c.args.card_words)) (sym c.words_per_region.ensures) in
    c.clear_free.ensures.free card (ap (kind_of c.args.table.now) (sym q) ∙ free)
