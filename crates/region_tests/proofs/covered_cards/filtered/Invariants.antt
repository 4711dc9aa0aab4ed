use Rattle.std.proofs.Common.{◌≡◌, length}
use Rattle.region_tests.proofs.covered_cards.filtered.Given as goal

abbrev pub invariant-loop-place : goal.invariant-loop-place
invariant-loop-place l = record {
  regions : length l.sets.sets ≡ 12;
  cards : l.sets.cards_per_region ≡ 64;
}
