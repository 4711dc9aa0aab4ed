use Rattle.std.proofs.Common.{ℕ, ◌<◌, ◌≤◌, ◌-◌, length}
use Rattle.marker.specs.Roots.{NamesMarked}
use Rattle.marker.proofs.cycle.past_marked.Given as goal

abbrev pub invariant-places : goal.invariant-places
invariant-places l = record {
  from_on : l.from ≤ l.place;
  passed : (i : ℕ) → l.from ≤ i → i < l.place → NamesMarked l.marks l.roots.words i;
}

abbrev pub decreases-places : goal.decreases-places
decreases-places l = length l.roots.words - l.place
