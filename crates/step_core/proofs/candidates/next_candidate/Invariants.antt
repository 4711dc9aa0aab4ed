use Rattle.std.proofs.Common.{◌<◌, ◌≤◌, ℕ}
use Rattle.mark_bitmap.specs.Live.{live_bound_of}
use Rattle.step_core.specs.Pause.{IsCandidate}
use Rattle.step_core.proofs.candidates.next_candidate.Given as goal

abbrev pub invariant-loop-number : goal.invariant-loop-number
invariant-loop-number l = record {
  beyond : (k : ℕ) → l.from ≤ k → k < l.number → IsCandidate l.table l.marker.tams l.marker.bitmaps.previous l.marker.running k
      → l.most < live_bound_of l.table l.marker.tams.previous l.marker.bitmaps.previous k;
}
