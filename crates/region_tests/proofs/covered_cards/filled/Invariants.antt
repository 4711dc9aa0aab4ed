use Rattle.std.proofs.Common.{◌≡◌, length}
use Rattle.region_tests.proofs.covered_cards.filled.Given as goal

abbrev pub invariant-loop-place : goal.invariant-loop-place
invariant-loop-place l = record {
  regions : length l.sets.sets ≡ 8;
  cards : l.sets.cards_per_region ≡ 16;
}
