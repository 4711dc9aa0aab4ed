use Rattle.std.proofs.Common.{◌*◌, ◌∙◌, arith, ap, ap₂, sym, subst, Bool, ℕ, ◌||◌}
use Rattle.bit_sets.specs.Bits.{has}
use Rattle.remembered_sets.specs.Sets.{IsFilter, Sets}
use Rattle.remembered_sets.proofs.Reading.{filter_stands, is_set, known_set, known_table, leads_is, reading, table_is}
use Rattle.remembered_sets.proofs.sets.RememberedSets.mark_covered.Goals as goal

pub index-set-requires : goal.index-set-requires
index-set-requires c =
    omega (arith, known_set c.self.inside _ c.self.view_is c.args.region c.requires.region, c.number-number.ensures)

pub index-filter-requires : goal.index-filter-requires
index-filter-requires c =
    omega (arith, known_table c.self.inside _ c.self.view_is c.self.invariant c.args.region c.requires.region, c.number-number.ensures)

pub mark-requires-clause-filter : goal.mark-requires-clause-filter
mark-requires-clause-filter c =
    subst (IsFilter c.self.inside.cards_per_region)
    (sym (table_is c.self.inside c.args.self.now c.self.view_is c.self.invariant c.args.region c.number-number.result
    c.index-filter.result.now c.requires.region c.number-number.ensures c.index-filter.ensures))
    (filter_stands c.self.inside c.args.self.now c.self.view_is c.self.invariant c.args.region c.requires.region)

pub mark-requires-clause-known : goal.mark-requires-clause-known
mark-requires-clause-known c =
    let is = reading c.self.view_is c.self.invariant c.requires.region c.number-number.ensures c.index-set.ensures in
    λ j d h. (let below = (is_set is).known j d h in omega (arith, below, c.requires.each))

pub mark-requires-clause-each : goal.mark-requires-clause-each
mark-requires-clause-each c =
    let is = reading c.self.view_is c.self.invariant c.requires.region c.number-number.ensures c.index-set.ensures in
    c.requires.each
    ∙ ap₂ (λ (n w : ℕ). n * w) (sym (is_set is).marks) (ap (λ (x : Sets). x.cards_per_region) (sym c.self.view_is))

pub returns-clause-flags : goal.returns-clause-flags
returns-clause-flags c =
    let is = reading c.self.view_is c.self.invariant c.requires.region c.number-number.ensures c.index-set.ensures in
    λ j. c.mark.ensures.flags j
    ∙ ap (λ (b : Bool). has c.args.flags.now j || b) (leads_is is j c.index-filter.result.now c.index-filter.ensures)
