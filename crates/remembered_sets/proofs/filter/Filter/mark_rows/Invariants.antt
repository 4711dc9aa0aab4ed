-- The groups of the region's cards below a number are done, and the others not yet.
use Rattle.std.proofs.Common.{◌≡◌, ◌+◌, ◌*◌, ℕ, length, ◌||◌, ◌&&◌}
use Rattle.bit_sets.specs.Bits.{has, is_between}
use Rattle.remembered_sets.specs.Sets.{lets_through}
use Rattle.remembered_sets.specs.Sharing.{filter_at}
use Rattle.remembered_sets.proofs.filter.Filter.mark_rows.Given as goal

abbrev pub invariant-loop-group : goal.invariant-loop-group
invariant-loop-group l = record {
  flags : (k : ℕ) → has l.flags k ≡ (has l.initial.flags k || (is_between (64 * l.from) (64 * (l.from + l.group)) k
      && (has l.entered k && lets_through (filter_at l.self l.part) l.cards_per_region k)));
  len : length l.flags ≡ length l.initial.flags;
}
