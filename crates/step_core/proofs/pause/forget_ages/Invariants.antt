use Rattle.std.proofs.Common.{take}
use Rattle.region_choice.specs.Ages.{AgesAfter}
use Rattle.evacuation.specs.Evacuates.{is_chosen}
use Rattle.step_core.proofs.pause.forget_ages.Given as goal

abbrev pub invariant-loop-row : goal.invariant-loop-row
invariant-loop-row l = AgesAfter (is_chosen (take l.row-index l.rows)) l.initial.ages l.ages
