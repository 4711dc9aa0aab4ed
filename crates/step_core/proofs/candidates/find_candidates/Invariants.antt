use Rattle.std.proofs.Common.{◌≡◌, ◌≤◌, ◌-◌, length}
use Rattle.std.specs.Vec.{vec_capacity, vec_len}
use Rattle.step_core.specs.Pause.{AreCandidatesWithin}
use Rattle.step_core.proofs.candidates.find_candidates.Given as goal

abbrev pub invariant-loop-row : goal.invariant-loop-row
invariant-loop-row l = record {
  candidates : AreCandidatesWithin l.table l.marker.tams l.marker.bitmaps.previous l.marker.running l.limit l.from l.rows.items;
  known : l.from ≤ length l.table.regions;
  room : vec_capacity l.rows ≡ vec_capacity l.fn.rows;
  few : vec_len l.rows ≤ l.from;
  len : length l.rows.items ≡ vec_len l.rows;
}

abbrev pub decreases-loop-row : goal.decreases-loop-row
decreases-loop-row l = length l.table.regions - l.from
