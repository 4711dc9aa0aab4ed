use Rattle.std.proofs.Common.{◌≡◌, ap, is_lt, rules}
use Rattle.std.proofs.lemmas.Fn.{always_returns_same}
use Rattle.heap_view.specs.Census.{class_cmp, row_cmp}
use Rattle.heap_view.specs.declared.census.Row.{Row}
use Rattle.heap_view.specs.declared.classes.Class.{Class}
use Rattle.heap_view.proofs.Counting.{census_reordered, class_ranks, row_ranks, small_reordered}
use Rattle.heap_view.proofs.census.census_of.Goals as goal

pub rows_of-requires-clause-small : goal.rows_of-requires-clause-small
rows_of-requires-clause-small c =
    small_reordered c.args.classes.now c.sort_unstable_by.new.self c.sort_unstable_by.ensures.permutation c.requires

pub rows_of-requires-clause-sorted : goal.rows_of-requires-clause-sorted
rows_of-requires-clause-sorted c =
    c.sort_unstable_by.ensures.sorted (λ (a b : Class). is_lt (class_cmp a b)) class_ranks
    (always_returns_same _ _ _ (λ a r q k.
    let is : r ≡ class_cmp a.0.now a.1.0.now = search rules in
    (ap is_lt is, search rules)))

pub returns-clause-census : goal.returns-clause-census
returns-clause-census c =
    census_reordered c.args.classes.now c.sort_unstable_by.new.self c.sort_unstable_by.ensures.permutation _ _ c.in_ok-rows.ensures
    c.sort_unstable_by-2.ensures.permutation
    (c.sort_unstable_by-2.ensures.sorted (λ (a b : Row). is_lt (row_cmp a b)) row_ranks
    (always_returns_same _ _ _ (λ a r q k.
    let is : r ≡ row_cmp a.0.now a.1.0.now = search rules in
    (ap is_lt is, search rules))))
