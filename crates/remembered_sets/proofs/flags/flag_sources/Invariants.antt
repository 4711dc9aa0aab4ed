-- The regions below a number are done, and those from it on not yet.
use Rattle.std.proofs.Common.{◌≡◌, ◌<◌, ◌≤◌, ◌-◌, ◌/◌, ℕ, length, ◌||◌, ◌&&◌}
use Rattle.bit_sets.specs.Bits.{has}
use Rattle.remembered_sets.specs.Sets.{lets_through}
use Rattle.remembered_sets.specs.Sharing.{filter_at}
use Rattle.remembered_sets.proofs.flags.flag_sources.Given as goal

abbrev pub invariant-loop-source : goal.invariant-loop-source
invariant-loop-source l = record {
  below : (k : ℕ) → k / l.cards_per_region < l.start
      → has l.flags k ≡ (has l.initial.flags k
      || (has l.sources (k / l.cards_per_region) && (has l.entered k && lets_through (filter_at l.filter l.part) l.cards_per_region k)));
  above : (k : ℕ) → l.start ≤ k / l.cards_per_region → has l.flags k ≡ has l.initial.flags k;
  len : length l.flags ≡ length l.initial.flags;
  inside : l.start ≤ length l.sources;
}

abbrev pub decreases-loop-source : goal.decreases-loop-source
decreases-loop-source l = length l.sources - l.start
