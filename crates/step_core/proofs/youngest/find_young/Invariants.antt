use Rattle.std.proofs.Common.{◌≡◌, ◌≤◌, length}
use Rattle.std.specs.Vec.{vec_capacity, vec_len}
use Rattle.step_core.proofs.Pauses.Young.{AreYoungBelow}
use Rattle.step_core.proofs.youngest.find_young.Given as goal

abbrev pub invariant-loop-number : goal.invariant-loop-number
invariant-loop-number l = record {
  young : AreYoungBelow l.table l.marker.tams l.marker.bitmaps.previous l.marker.running l.ages l.number l.rows.items;
  room : vec_capacity l.rows ≡ vec_capacity l.fn.rows;
  few : vec_len l.rows ≤ l.number;
  len : length l.rows.items ≡ vec_len l.rows;
}
