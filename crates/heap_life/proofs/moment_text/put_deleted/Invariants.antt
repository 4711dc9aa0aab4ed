use Rattle.std.proofs.Common.{take}
use Rattle.std.specs.List.{flat_map}
use Rattle.satb_log.specs.Logs.{log_of}
use Rattle.script_text.specs.Texts.{Adds, spaced_number}
use Rattle.heap_life.proofs.moment_text.put_deleted.Given as goal

abbrev pub invariant-loop-place : goal.invariant-loop-place
invariant-loop-place l = Adds l.initial.text (flat_map spaced_number (take l.place (log_of l.logs l.mutator))) l.text
