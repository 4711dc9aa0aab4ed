use Rattle.std.proofs.Common.{◌≡◌, ◌+◌, ◌/◌, ◌∙◌, ℕ, Bool, false, length, refl, sym, ap, ap₂, arith, if◌then◌else◌}
use Rattle.bit_sets.specs.Bits.{has, is_between}
use Rattle.remembered_sets.specs.Sets.{Sets, set_of}
use Rattle.remembered_sets.specs.Sharing.{filter_of}
use Rattle.remembered_sets.specs.Inside.{sets_of}
use Rattle.remembered_sets.proofs.Kept.{length-with}
use Rattle.remembered_sets.proofs.Reading.{kept_sets}
use Rattle.remembered_sets.proofs.Runs.{AreSets-emptied, emptied_at, emptied_if, in_regions_is, none_emptied}
use Rattle.remembered_sets.proofs.sets.RememberedSets.clear_run.Goals as goal

pub clear_each-requires-clause-known : goal.clear_each-requires-clause-known
clear_each-requires-clause-known c =
    omega (
      arith,
      c.number-number.ensures,
      c.requires,
      ap (λ (x : Sets). length x.sets) c.self.view_is,
      length-with c.self.inside.filters.items c.self.inside.sets.items,
    )

-- what each set is, with its filter
each_set : (c : goal.After-clear_each) (k : ℕ)
    → set_of (kept_sets c.clear_each.new.filters.items c.clear_each.new.sets.items c.self.inside.cards_per_region c.clear_range.new.self) k
    ≡ emptied_if (is_between c.args.first (c.args.first + c.args.count) k) (set_of (sets_of c.self.inside) k)
each_set c k =
    emptied_at c.self.inside.filters.items c.clear_each.new.filters.items c.self.inside.sets.items c.clear_each.new.sets.items
    c.number-number.result (c.number-number.result + c.args.count) k
    (omega (
      arith,
      c.number-number.ensures,
      c.requires,
      ap (λ (x : Sets). length x.sets) c.self.view_is,
      length-with c.self.inside.filters.items c.self.inside.sets.items,
    ))
    c.clear_each.ensures.each (c.clear_each.ensures.sets k) (c.clear_each.ensures.filters k)
    ∙ ap (λ (n : ℕ). emptied_if (is_between n (n + c.args.count) k) (set_of (sets_of c.self.inside) k)) c.number-number.ensures

pub returns-clause-sets : goal.returns-clause-sets
returns-clause-sets c = λ k.
    each_set c k
    ∙ ap (λ (x : Sets). emptied_if (is_between c.args.first (c.args.first + c.args.count) k) (set_of x k)) c.self.view_is

pub returns-clause-entered : goal.returns-clause-entered
returns-clause-entered c = λ card.
    c.clear_range.ensures.flags card
    ∙ ap (λ (b : Bool). if b then false else has c.self.inside.entered card)
    (in_regions_is c.self.inside.cards_per_region c.number-number.result (c.number-number.result + c.args.count) card
    c.self.invariant.all.some_cards)
    ∙ ap₂ (λ (n : ℕ) (x : Sets). if is_between n (n + c.args.count) (card / x.cards_per_region) then false else has x.entered card)
    c.number-number.ensures c.self.view_is

pub returns-clause-each : goal.returns-clause-each
returns-clause-each c =
    length-with c.clear_each.new.filters.items c.clear_each.new.sets.items ∙ c.clear_each.ensures.each
    ∙ sym (length-with c.self.inside.filters.items c.self.inside.sets.items) ∙ ap (λ (x : Sets). length x.sets) c.self.view_is

pub invariant_of-self : goal.invariant_of-self
invariant_of-self c =
    let was : Sets = sets_of c.self.inside in
    let now : Sets = kept_sets c.clear_each.new.filters.items c.clear_each.new.sets.items c.self.inside.cards_per_region
    c.clear_range.new.self in
    let same : length now.sets ≡ length was.sets =
    length-with c.clear_each.new.filters.items c.clear_each.new.sets.items ∙ c.clear_each.ensures.each
    ∙ sym (length-with c.self.inside.filters.items c.self.inside.sets.items) in
    record {
      all = AreSets-emptied was now c.args.first (c.args.first + c.args.count) refl same c.clear_range.ensures.len (each_set c)
          c.self.invariant.all;
      tables = omega (arith, c.self.invariant.tables, c.clear_each.ensures.each, c.clear_each.ensures.each_table);
      none = λ e region. none_emptied _ (filter_of c.self.inside.filters.items region) (filter_of c.clear_each.new.filters.items region)
          (c.clear_each.ensures.filters region) (c.self.invariant.none e region);
    }
