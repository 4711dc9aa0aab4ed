use Rattle.std.proofs.Common.{take}
use Rattle.std.specs.List.{flat_map}
use Rattle.script_text.specs.Texts.{Adds}
use Rattle.heap_life.specs.FileNames.{byte_text}
use Rattle.heap_life.proofs.file_name.put_name.Given as goal

abbrev pub invariant-loop-place : goal.invariant-loop-place
invariant-loop-place l = Adds l.initial.text (flat_map byte_text (take l.place l.name)) l.text
