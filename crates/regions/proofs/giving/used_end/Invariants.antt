use Rattle.regions.proofs.Common.{◌≡◌, ◌<◌, ◌≤◌, ℕ, true, get_or, kind_is_free, free_row}
use Rattle.regions.proofs.giving.used_end.Given as goal

abbrev pub invariant-loop-i : goal.invariant-loop-i
invariant-loop-i l = record {
  below : l.end ≤ l.i;
  free : (k : ℕ) → l.end ≤ k → k < l.i → kind_is_free (get_or l.rows k free_row).kind ≡ true;
}
