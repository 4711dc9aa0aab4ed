use Rattle.std.proofs.Common.{◌≡◌, ◌≤◌, ◌+◌, length}
use Rattle.std.specs.Vec.{vec_capacity, vec_len}
use Rattle.step_core.proofs.Pauses.Highest.{HasDescended}
use Rattle.step_core.proofs.highest.choose_highest.Given as goal

abbrev pub invariant-loop-next : goal.invariant-loop-next
invariant-loop-next l = record {
  descended : HasDescended l.table l.marker.tams.previous l.marker.bitmaps.previous l.limit l.number l.free_below l.sum l.rows.items;
  known : l.number ≤ length l.table.regions;
  room : vec_capacity l.rows ≡ vec_capacity l.fn.rows;
  few : vec_len l.rows + l.number ≤ length l.table.regions;
  len : length l.rows.items ≡ vec_len l.rows;
}

abbrev pub decreases-loop-next : goal.decreases-loop-next
decreases-loop-next l = l.number
