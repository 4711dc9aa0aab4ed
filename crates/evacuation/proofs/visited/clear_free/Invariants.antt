use Rattle.std.proofs.Common.{◌≡◌, ◌≤◌, ◌-◌, length}
use Rattle.evacuation.proofs.Loops.VisitedCards.{AreCleared}
use Rattle.evacuation.proofs.visited.clear_free.Given as goal

abbrev pub invariant-loop-card : goal.invariant-loop-card
invariant-loop-card l = record {
  flags : AreCleared l.table l.initial.visited l.visited l.cards_per_region l.start;
  inside : l.start ≤ length l.visited;
  len : length l.visited ≡ length l.initial.visited;
}

abbrev pub decreases-loop-card : goal.decreases-loop-card
decreases-loop-card l = length l.visited - l.start
