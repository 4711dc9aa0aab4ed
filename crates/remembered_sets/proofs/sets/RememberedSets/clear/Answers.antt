use Rattle.std.proofs.Common.{◌≡◌, ◌∙◌, arith, ap, sym, subst, set}
use Rattle.remembered_sets.specs.Sets.{Sets, CardSet, CardFilter, AreSets, without_region}
use Rattle.remembered_sets.proofs.Kept.{none_still}
use Rattle.remembered_sets.proofs.Reading.{all_are, cleared_is, kept_sets, known_set, known_table, put_tables, reading}
use Rattle.remembered_sets.proofs.Laws.{AreSets-cleared, cleared_by}
use Rattle.remembered_sets.proofs.sets.RememberedSets.clear.Goals as goal

pub clear_filter-requires : goal.clear_filter-requires
clear_filter-requires c =
    omega (arith, known_table c.self.inside _ c.self.view_is c.self.invariant c.args.region c.requires, c.number-number.ensures)

pub index_mut-set-requires : goal.index_mut-set-requires
index_mut-set-requires c =
    omega (arith, known_set c.self.inside _ c.self.view_is c.args.region c.requires, c.number-number.ensures)

pub returns : goal.returns
returns c =
    let is = reading c.self.view_is c.self.invariant c.requires c.number-number.ensures c.index_mut-set.ensures.value in
    let leaves : c.clear_range.new.self ≡ without_region c.self.inside.cards_per_region c.args.region c.self.inside.entered =
    cleared_by c.self.inside.cards_per_region c.args.region c.self.inside.entered c.clear_range.new.self c.self.invariant.all.some_cards
    c.clear_range.ensures.len (rw c.number-number.ensures at c.clear_range.ensures.flags) in
    ap (λ (x : CardSet). kept_sets c.clear_filter.new.filters.items (set c.self.inside.sets.items c.number-number.result x)
    c.self.inside.cards_per_region c.clear_range.new.self) c.clear.ensures
    ∙ cleared_is is c.clear_filter.new.filters.items c.clear_range.new.self c.clear_filter.ensures.own c.clear_filter.ensures.others
    (leaves ∙ ap (λ (x : Sets). without_region x.cards_per_region c.args.region x.entered) c.self.view_is)

pub invariant_of-self : goal.invariant_of-self
invariant_of-self c =
    let is = reading c.self.view_is c.self.invariant c.requires c.number-number.ensures c.index_mut-set.ensures.value in
    record {
      all = subst AreSets (sym (returns c)) (AreSets-cleared c.args.self.now c.args.region (all_are is) c.requires);
      tables = put_tables is c.clear_filter.new.filters.items c.clear.new.self c.clear_filter.ensures.len;
      none = λ e. none_still c.self.inside.filters.items c.clear_filter.new.filters.items c.number-number.result
          (ap (λ (g : CardFilter). g.rows) c.clear_filter.ensures.own) c.clear_filter.ensures.others (c.self.invariant.none e);
    }
