use Rattle.std.proofs.Common.{◌≡◌, ℕ, if◌then◌else◌, length, get_or}
use Rattle.bit_sets.specs.Bits.{is_between}
use Rattle.remembered_sets.specs.Sets.{emptied, emptied_filter, no_set}
use Rattle.remembered_sets.specs.Sharing.{filter_of}
use Rattle.remembered_sets.proofs.sets.clear_each.Given as goal

abbrev pub invariant-loop-number : goal.invariant-loop-number
invariant-loop-number l = record {
  sets : (k : ℕ) → get_or l.sets.items k no_set ≡ (if is_between l.first l.number k
      then emptied (get_or l.initial.sets.items k no_set) else get_or l.initial.sets.items k no_set);
  filters : (k : ℕ) → filter_of l.filters.items k ≡ (if is_between l.first l.number k
      then emptied_filter (filter_of l.initial.filters.items k) else filter_of l.initial.filters.items k);
  each : length l.sets.items ≡ length l.initial.sets.items;
  each_table : length l.filters.items ≡ length l.initial.filters.items;
}
