use Rattle.std.proofs.Common.{◌≡◌, ◌<◌, ◌≤◌, ◌-◌, ℕ, false, length}
use Rattle.cards.specs.Cards.{is_dirty}
use Rattle.evacuation.specs.Space.{flag}
use Rattle.evacuation.proofs.WholePause.RisingQueue.{RiseBelow}
use Rattle.evacuation.proofs.room.dirty_noted.Given as goal

abbrev pub invariant-loop-card : goal.invariant-loop-card
invariant-loop-card l = record {
  below : (k : ℕ) → k < l.start → is_dirty l.cards k ≡ flag l.noted k;
  above : (k : ℕ) → l.start ≤ k → is_dirty l.cards k ≡ false;
  rise : RiseBelow l.start l.cards.queue;
  inside : l.start ≤ length l.noted;
  logs : l.cards.logs ≡ l.initial.cards.logs;
  len : length l.cards.dirty ≡ length l.initial.cards.dirty;
}

abbrev pub decreases-loop-card : goal.decreases-loop-card
decreases-loop-card l = length l.noted - l.start
