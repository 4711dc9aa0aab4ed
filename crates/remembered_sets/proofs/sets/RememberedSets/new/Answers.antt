use Rattle.std.proofs.Common.{◌≡◌, ◌*◌, ◌∙◌, arith, ap, ap₂, sym, subst, length, replicate, false, ℕ, List, Bool}
use Rattle.std.specs.Int.{div_ceil}
use Rattle.std.proofs.lemmas.List.{length-replicate}
use Rattle.remembered_sets.specs.Sets.{AreSets, CardFilter, CardSet, empty_filter, empty_set}
use Rattle.remembered_sets.specs.Sharing.{filter_of}
use Rattle.remembered_sets.proofs.Kept.{AreSets-empty, in_fours, no_rows, none_new, with_new}
use Rattle.remembered_sets.proofs.Reading.{kept_sets}
use Rattle.remembered_sets.proofs.sets.RememberedSets.new.Goals as goal

pub returns : goal.returns
returns c =
    let count : c.loop.counter ≡ c.args.regions = omega (arith, c.loop-test.false, c.loop.auto.counter-end) in
    let sets : c.loop.sets.items ≡ replicate c.args.regions (empty_set c.args.regions 0 0) =
    c.loop.invariant ∙ ap (λ (n : ℕ). replicate n (empty_set c.args.regions 0 0)) count in
    let entered : c.in_ok-entered.entered ≡ replicate (c.args.regions * c.args.cards_per_region) false =
    c.in_ok-entered.ensures ∙ ap (λ (n : ℕ). replicate n false) (omega (arith, c.in-Some.ensures)) in
    ap₂ (λ (s : List CardSet) (l : List Bool). kept_sets c.in_ok-filters.filters.items s c.args.cards_per_region l) sets entered
    ∙ ap (λ (t : List (List CardFilter)). kept_sets t (replicate c.args.regions (empty_set c.args.regions 0 0)) c.args.cards_per_region
    (replicate (c.args.regions * c.args.cards_per_region) false)) c.in_ok-filters.ensures
    ∙ ap (λ (s : List CardSet). record {
      sets = s;
      cards_per_region = c.args.cards_per_region;
      entered = replicate (c.args.regions * c.args.cards_per_region) false;
    })
    (with_new c.args.regions (div_ceil c.args.regions 4) c.args.cards_per_region c.args.rows (in_fours c.args.regions))

pub invariant_of-result : goal.invariant_of-result
invariant_of-result c = record {
  all = subst AreSets (sym (returns c))
      (AreSets-empty c.args.regions c.args.cards_per_region c.args.rows c.requires.some_cards c.requires.whole);
  tables =
      let count : c.loop.counter ≡ c.args.regions = omega (arith, c.loop-test.false, c.loop.auto.counter-end) in
      let sets : length c.loop.sets.items ≡ c.loop.counter =
      ap (λ (l : List CardSet). length l) c.loop.invariant ∙ length-replicate c.loop.counter (empty_set c.args.regions 0 0) in
      let four : List CardFilter = replicate 4 (empty_filter c.args.cards_per_region c.args.rows) in
      let tables : length c.in_ok-filters.filters.items ≡ div_ceil c.args.regions 4 =
      ap (λ (l : List (List CardFilter)). length l) c.in_ok-filters.ensures ∙ length-replicate (div_ceil c.args.regions 4) four in
      omega (arith, count, sets, tables, in_fours c.args.regions);
  none = λ e k.
      ap (λ (l : List (List CardFilter)). (filter_of l k).rows) c.in_ok-filters.ensures
      ∙ none_new (div_ceil c.args.regions 4) c.args.cards_per_region c.args.rows (no_rows c.args.rows e) k;
}
