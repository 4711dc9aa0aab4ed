use Rattle.std.proofs.Common.{take}
use Rattle.std.specs.List.{flat_map}
use Rattle.satb_log.specs.Logs.{log_of}
use Rattle.script_text.specs.Texts.{Adds}
use Rattle.heap_view.specs.Actors.{logged_text}
use Rattle.heap_view.proofs.root_lines.put_deletion_log.Given as goal

abbrev pub invariant-loop-place : goal.invariant-loop-place
invariant-loop-place l = Adds l.initial.text (flat_map (logged_text l.table) (take l.place (log_of l.logs l.mutator))) l.text
