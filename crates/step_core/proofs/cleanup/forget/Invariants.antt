use Rattle.std.proofs.Common.{◌≡◌, ◌+◌, false}
use Rattle.bit_sets.specs.Bits.{is_between}
use Rattle.marker.specs.Stands.{MarkerStands}
use Rattle.region_choice.specs.Ages.{AgesAfter}
use Rattle.step_core.specs.Cleaning.{HasForgotten}
use Rattle.step_core.proofs.cleanup.forget.Given as goal

abbrev pub invariant-loop-i : goal.invariant-loop-i
invariant-loop-i l = record {
  stands : MarkerStands l.table l.marker;
  idle : l.marker.running ≡ false;
  forgotten : HasForgotten l.table.words_per_region l.first l.i l.fn.marker l.marker;
  aged : AgesAfter (is_between l.first (l.first + l.i)) l.fn.ages l.ages;
}
