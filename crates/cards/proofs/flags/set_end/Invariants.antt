use Rattle.std.proofs.Common.{◌≡◌, ◌<◌, ◌≤◌, ℕ, false, get_or}
use Rattle.cards.proofs.flags.set_end.Given as goal

abbrev pub invariant-loop-i : goal.invariant-loop-i
invariant-loop-i l = record {
  below : l.end ≤ l.i;
  clear : (k : ℕ) → l.end ≤ k → k < l.i → get_or l.items k false ≡ false;
}
