use Rattle.std.proofs.Common.{◌<◌, ◌≤◌, ◌-◌, ◌^◌}
use Rattle.regions.proofs.Cards.FirstTiles.{AreWritten}
use Rattle.regions.proofs.first_tiles.fill_more.Given as goal

abbrev pub decreases-full : goal.decreases-full
decreases-full l = l.to - l.next

abbrev pub invariant-full : goal.invariant-full
invariant-full l = record {
  low : l.from ≤ l.next;
  small : l.next < 2 ^ 32;
  words : AreWritten l.fn.entries l.entries l.from l.next l.to l.entry;
}

abbrev pub invariant-loop-card : goal.invariant-loop-card
invariant-loop-card l = (l.from ≤ l.card) × AreWritten l.fn.entries l.entries l.from l.card l.to l.entry
