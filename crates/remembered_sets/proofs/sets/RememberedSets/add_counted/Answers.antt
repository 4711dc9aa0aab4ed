use Rattle.std.proofs.Common.{◌∙◌, arith, ap, ap₂, sym, subst, length, set, true, ℕ, List, Bool}
use Rattle.remembered_sets.specs.Sets.{Sets, CardSet, CardFilter, AreSets, IsFilter, covers, may_lead}
use Rattle.remembered_sets.specs.Sharing.{filter_of}
use Rattle.remembered_sets.proofs.Filters.{rows_with}
use Rattle.remembered_sets.proofs.Kept.{none_still}
use Rattle.remembered_sets.proofs.Owed.{owed_added}
use Rattle.remembered_sets.specs.Owed.{owed, owed_by}
use Rattle.remembered_sets.proofs.Reading.{added_is, all_are, filter_stands, is_set, kept_sets, known_set, known_table}
use Rattle.remembered_sets.proofs.Reading.{put_tables, reading, set_is}
use Rattle.remembered_sets.proofs.Laws.{covers-added, leads-added, AreSets-added, source_known}
use Rattle.remembered_sets.proofs.sets.RememberedSets.add_counted.Goals as goal

pub add_to_filter-requires-clause-known : goal.add_to_filter-requires-clause-known
add_to_filter-requires-clause-known c =
    omega (arith, known_table c.self.inside _ c.self.view_is c.self.invariant c.args.region c.requires.region, c.number-number.ensures)

pub add_to_filter-requires-clause-stands : goal.add_to_filter-requires-clause-stands
add_to_filter-requires-clause-stands c =
    subst (λ (i : ℕ). IsFilter c.self.inside.cards_per_region (filter_of c.self.inside.filters.items i)) (sym c.number-number.ensures)
    (filter_stands c.self.inside c.args.self.now c.self.view_is c.self.invariant c.args.region c.requires.region)

pub add_to_filter-requires-clause-none : goal.add_to_filter-requires-clause-none
add_to_filter-requires-clause-none c =
    λ e. c.self.invariant.none e c.number-number.result

pub index_mut-set-requires : goal.index_mut-set-requires
index_mut-set-requires c =
    omega (arith, known_set c.self.inside _ c.self.view_is c.args.region c.requires.region, c.number-number.ensures)

pub add-requires : goal.add-requires
add-requires c =
    let is = reading c.self.view_is c.self.invariant c.requires.region c.number-number.ensures c.index_mut-set.ensures.value in
    let own =
    source_known c.args.card c.args.self.now.cards_per_region (length c.args.self.now.sets) (all_are is).some_cards c.requires.card in
    let marks = (is_set is).marks in
    omega (arith, own, c.requires.source, c.number-3.ensures, marks)

pub returns-clause-after : goal.returns-clause-after
returns-clause-after c =
    let is = reading c.self.view_is c.self.invariant c.requires.region c.number-number.ensures c.index_mut-set.ensures.value in
    ap (λ (x : CardSet). kept_sets c.add_to_filter.new.filters.items (set c.self.inside.sets.items c.number-number.result x)
    c.self.inside.cards_per_region c.set.new.self) c.add.ensures
    ∙ added_is is c.add_to_filter.new.filters.items c.args.card c.number-3.result c.set.new.self c.add_to_filter.ensures.own
    c.add_to_filter.ensures.others (c.number-3.ensures ∙ sym c.requires.source)
    (c.set.ensures ∙ ap₂ (λ (l : List Bool) (i : ℕ). set l i true) (ap (λ (x : Sets). x.entered) c.self.view_is) c.number.ensures)

pub invariant_of-self : goal.invariant_of-self
invariant_of-self c =
    let is = reading c.self.view_is c.self.invariant c.requires.region c.number-number.ensures c.index_mut-set.ensures.value in
    record {
      all = subst AreSets (sym (returns-clause-after c))
          (AreSets-added c.args.self.now c.args.region c.args.card (all_are is) c.requires.region c.requires.card);
      tables = put_tables is c.add_to_filter.new.filters.items c.add.new.self c.add_to_filter.ensures.len;
      none = λ e. none_still c.self.inside.filters.items c.add_to_filter.new.filters.items c.number-number.result
          (ap (λ (g : CardFilter). g.rows) c.add_to_filter.ensures.own
          ∙ rows_with (filter_of c.self.inside.filters.items c.number-number.result) c.self.inside.cards_per_region c.args.card)
          c.add_to_filter.ensures.others (c.self.invariant.none e);
    }

pub returns-clause-covered : goal.returns-clause-covered
returns-clause-covered c =
    let all = subst AreSets c.self.view_is c.self.invariant.all in
    ap (λ (s : Sets). covers s c.args.region c.args.card) (returns-clause-after c)
    ∙ covers-added c.args.self.now c.args.region c.args.card all c.requires.region c.requires.card

pub returns-clause-leads : goal.returns-clause-leads
returns-clause-leads c =
    let all = subst AreSets c.self.view_is c.self.invariant.all in
    ap (λ (s : Sets). may_lead s c.args.region c.args.card) (returns-clause-after c)
    ∙ leads-added c.args.self.now c.args.region c.args.card all c.requires.region c.requires.card

pub returns-clause-work : goal.returns-clause-work
returns-clause-work c =
    let is = reading c.self.view_is c.self.invariant c.requires.region c.number-number.ensures c.index_mut-set.ensures.value in
    let paid = owed_added c.args.self.now c.args.region c.args.card (all_are is) c.requires.region in
    let owes = ap (λ (i : ℕ). owed_by (filter_of c.self.inside.filters.items i)) c.number-number.ensures
    ∙ sym (ap (λ (x : CardSet). owed_by x.filter) (set_is is)) in
    let now = ap owed (returns-clause-after c) in
    omega (arith, c.add_to_filter.ensures.work, paid, owes, now)
