use Rattle.std.proofs.Common.{take}
use Rattle.step_core.specs.Pause.{AreForgotten}
use Rattle.step_core.proofs.pause.forget_counts.Given as goal

abbrev pub invariant-loop-row : goal.invariant-loop-row
invariant-loop-row l = AreForgotten (take l.row-index l.rows) l.initial.live l.live
