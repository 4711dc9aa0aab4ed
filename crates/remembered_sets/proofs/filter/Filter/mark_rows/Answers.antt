use Rattle.std.proofs.Common.{◌≡◌, ◌+◌, ◌*◌, ◌/◌, ◌≤◌, ◌^◌, ◌∙◌, arith, sym, ap, ap₂, ℕ, refl, ◌||◌, ◌&&◌}
use Rattle.bit_sets.specs.Bits.{has, is_between, is_passing}
use Rattle.remembered_sets.specs.Sets.{lets_through}
use Rattle.remembered_sets.specs.Sharing.{filter_at}
use Rattle.remembered_sets.proofs.Filters.{group_within, one_more}
use Rattle.remembered_sets.proofs.Parts.{part_at, few_rows, group_fits, in_groups, has_rows, lets_in_group, lets_none, none_more}
use Rattle.remembered_sets.proofs.filter.Filter.mark_rows.Goals as goal

pub returns-then-not-self-part-clause-flags : goal.returns-then-not-self-part-clause-flags
returns-then-not-self-part-clause-flags c =
    let is = part_at c.self.inside _ _ _ c.self.view_is c.self.invariant c.requires.part c.requires.stands in
    λ k. none_more (has c.args.flags.now k)
    (is_between (c.args.source * c.args.cards_per_region) (c.args.source * c.args.cards_per_region + c.args.cards_per_region) k)
    (has c.args.entered.now k) (lets_through (filter_at c.args.self.now c.args.part) c.args.cards_per_region k)
    (lets_none is k (has_rows is c.requires.some_rows) c.if-not-self-part.true)

pub row_of_first-requires-clause-some : goal.row_of_first-requires-clause-some
row_of_first-requires-clause-some c =
    has_rows (part_at c.self.inside _ _ _ c.self.view_is c.self.invariant c.requires.part c.requires.stands) c.requires.some_rows

pub row_of_first-requires-clause-few : goal.row_of_first-requires-clause-few
row_of_first-requires-clause-few c =
    let is = part_at c.self.inside _ _ _ c.self.view_is c.self.invariant c.requires.part c.requires.stands in
    few_rows is (2 ^ 32) c.requires.some_cards c.law-2.ensures

pub row_of_second-requires-clause-some : goal.row_of_second-requires-clause-some
row_of_second-requires-clause-some c =
    has_rows (part_at c.self.inside _ _ _ c.self.view_is c.self.invariant c.requires.part c.requires.stands) c.requires.some_rows

pub row_of_second-requires-clause-few : goal.row_of_second-requires-clause-few
row_of_second-requires-clause-few c =
    let is = part_at c.self.inside _ _ _ c.self.view_is c.self.invariant c.requires.part c.requires.stands in
    few_rows is (2 ^ 32) c.requires.some_cards c.law-2.ensures

pub overflow_add-first : goal.overflow_add-first
overflow_add-first c =
    let is = part_at c.self.inside _ _ _ c.self.view_is c.self.invariant c.requires.part c.requires.stands in
    let whole = in_groups c.args.cards_per_region (c.requires.stands.whole c.requires.some_rows) in
    let inside = group_fits is c.row_of_first.result _ 0 whole (omega (arith, whole, c.requires.some_cards))
    (omega (arith, c.row_of_first.ensures.below)) in
    omega (arith, inside, c.law-2.ensures)

pub overflow_mul-second : goal.overflow_mul-second
overflow_mul-second c =
    let is = part_at c.self.inside _ _ _ c.self.view_is c.self.invariant c.requires.part c.requires.stands in
    let whole = in_groups c.args.cards_per_region (c.requires.stands.whole c.requires.some_rows) in
    let inside = group_fits is c.row_of_second.result _ 0 whole (omega (arith, whole, c.requires.some_cards))
    c.row_of_second.ensures.below in
    omega (arith, inside, c.law-2.ensures)

pub overflow_add-second : goal.overflow_add-second
overflow_add-second c =
    let is = part_at c.self.inside _ _ _ c.self.view_is c.self.invariant c.requires.part c.requires.stands in
    let whole = in_groups c.args.cards_per_region (c.requires.stands.whole c.requires.some_rows) in
    let inside = group_fits is c.row_of_second.result _ 0 whole (omega (arith, whole, c.requires.some_cards))
    c.row_of_second.ensures.below in
    omega (arith, inside, c.law-2.ensures)

pub overflow_add-first-in-loop-group : goal.overflow_add-first-in-loop-group
overflow_add-first-in-loop-group c =
    let is = part_at c.self.inside _ _ _ c.self.view_is c.self.invariant c.requires.part c.requires.stands in
    let whole = in_groups c.args.cards_per_region (c.requires.stands.whole c.requires.some_rows) in
    let inside = group_fits is c.row_of_first.result _ c.loop-group.group whole c.loop-group-test.true
    (omega (arith, c.row_of_first.ensures.below)) in
    omega (arith, inside, c.law-2.ensures)

pub overflow_add-second-in-loop-group : goal.overflow_add-second-in-loop-group
overflow_add-second-in-loop-group c =
    let is = part_at c.self.inside _ _ _ c.self.view_is c.self.invariant c.requires.part c.requires.stands in
    let whole = in_groups c.args.cards_per_region (c.requires.stands.whole c.requires.some_rows) in
    let inside = group_fits is c.row_of_second.result _ c.loop-group.group whole c.loop-group-test.true c.row_of_second.ensures.below in
    omega (arith, inside, c.law-2.ensures)

pub set_passing-requires-clause-within : goal.set_passing-requires-clause-within
set_passing-requires-clause-within c =
    let q : ℕ = c.args.cards_per_region / 64 in
    let whole : c.args.cards_per_region ≡ 64 * q = omega (arith, c.requires.stands.whole c.requires.some_rows) in
    let all : 64 * (c.args.source * q + c.loop-group.group) + 64 ≤ (c.args.source + 1) * c.args.cards_per_region =
    group_within c.args.source c.args.cards_per_region q c.loop-group.group (c.args.source + 1)
    ((c.args.source + 1) * c.args.cards_per_region)
    whole c.loop-group-test.true (omega arith) refl in
    omega (arith, all, c.requires.within, c.loop-group.invariant.len)

pub set_passing-requires-clause-first : goal.set_passing-requires-clause-first
set_passing-requires-clause-first c =
    let is = part_at c.self.inside _ _ _ c.self.view_is c.self.invariant c.requires.part c.requires.stands in
    let whole = in_groups c.args.cards_per_region (c.requires.stands.whole c.requires.some_rows) in
    group_fits is c.row_of_first.result _ c.loop-group.group whole c.loop-group-test.true (omega (arith, c.row_of_first.ensures.below))

pub set_passing-requires-clause-second : goal.set_passing-requires-clause-second
set_passing-requires-clause-second c =
    let is = part_at c.self.inside _ _ _ c.self.view_is c.self.invariant c.requires.part c.requires.stands in
    let whole = in_groups c.args.cards_per_region (c.requires.stands.whole c.requires.some_rows) in
    group_fits is c.row_of_second.result _ c.loop-group.group whole c.loop-group-test.true c.row_of_second.ensures.below

pub loop-group-preserved : goal.loop-group-preserved
loop-group-preserved c =
    let is = part_at c.self.inside _ _ _ c.self.view_is c.self.invariant c.requires.part c.requires.stands in
    let q : ℕ = c.args.cards_per_region / 64 in
    let whole : c.args.cards_per_region ≡ 64 * q = omega (arith, c.requires.stands.whole c.requires.some_rows) in
    let g : ℕ = c.loop-group.group in
    let start : ℕ = c.args.part * (c.self.inside.size / 64) in
    record {
      flags = λ k.
          one_more (64 * (c.args.source * q)) (64 * (c.args.source * q + g)) (64 * (c.args.source * q + (g + 1))) k
          (has c.args.flags.now k) (has c.loop-group.flags k) (has c.set_passing.new.self k) (has c.args.entered.now k)
          (is_passing c.self.inside.flags (start + c.row_of_first.result * q + g) (start + c.row_of_second.result * q + g) k)
          (lets_through (filter_at c.args.self.now c.args.part) c.args.cards_per_region k)
          (omega arith) (omega arith) (c.loop-group.invariant.flags k) (c.set_passing.ensures.flags k)
          (λ low high. lets_in_group is c.args.source q g k c.row_of_first.result c.row_of_second.result c.requires.some_cards
          (has_rows is c.requires.some_rows) c.if-not-self-part.false whole c.loop-group-test.true low high c.row_of_first.ensures.row
          c.row_of_second.ensures.row);
      len = c.set_passing.ensures.len ∙ c.loop-group.invariant.len;
    }

pub returns-clause-flags : goal.returns-clause-flags
returns-clause-flags c = λ k.
    let q : ℕ = c.args.cards_per_region / 64 in
    let whole : c.args.cards_per_region ≡ 64 * q = omega (arith, c.requires.stands.whole c.requires.some_rows) in
    let start : c.args.source * c.args.cards_per_region ≡ 64 * (c.args.source * q) =
    ap (λ (x : ℕ). c.args.source * x) whole ∙ omega arith in
    let done : c.loop-group.group ≡ q = omega (arith, c.loop-group-test.false, c.loop-group.auto.group-end) in
    let end : c.args.source * c.args.cards_per_region + c.args.cards_per_region ≡ 64 * (c.args.source * q + c.loop-group.group) =
    omega (arith, start, whole, done) in
    c.loop-group.invariant.flags k
    ∙ ap₂ (λ (x y : ℕ). has c.args.flags.now k
    || (is_between x y k && (has c.args.entered.now k && lets_through (filter_at c.args.self.now c.args.part) c.args.cards_per_region k)))
    (sym start) (sym end)
