use Rattle.std.proofs.Common.{◌≡◌, replicate}
use Rattle.remembered_sets.specs.Sets.{empty_filter}
use Rattle.remembered_sets.proofs.filter.new_filters.Given as goal

abbrev pub invariant-loop : goal.invariant-loop
invariant-loop l = l.filters.items ≡ replicate l.counter (replicate 4 (empty_filter l.cards_per_region l.rows))
